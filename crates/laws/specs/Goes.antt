-- What a function makes of a tree of accesses: it ends as the rules' run of the tree does, and its accesses stand in the list from number
-- k on.
use Rattle.std.specs.Prelude.{ℕ, ◌+◌, ◌*◌, ◌≡◌, List, length}
use Rattle.std.proofs.lemmas.List.Edits.{sets}
use Rattle.rules.specs.declared.Bus.{Bus}
use Rattle.rules.specs.declared.Cpu.{Cpu}
use Rattle.rules.specs.declared.State.{State}
use Rattle.rules.specs.declared.Purpose.{Purpose}
use Rattle.rules.specs.Cycles.{Bank, Cycles, done, write, Access, run}
use Rattle.rules.specs.Bus.{world, images, stored, board, list_of}
use Rattle.rules.specs.Record.{record_of}
use Rattle.laws.specs.States.{moved}

-- t, begun at access k with bus u, image i and list l, ends with a at access n with bus u', image i' and list l'
pub record Goes {A : Type 0} (t : Cycles A) (k : ℕ) (u : Bus) (i l : List ℕ) (a : A) (n : ℕ) (u' : Bus) (i' l' : List ℕ) : Type 0 where
  pub made : List Access
  pub ran : run (board images) t (world u i) ≡ record { value = a; after = world u' i'; list = made }
  pub count : k + length made ≡ n
  pub listed : sets l (8 * k) (list_of made) ≡ l'

-- one access: 0 a read or 1 a write, its purpose, address, bank and value
abbrev pub access : ℕ → Purpose → ℕ → ℕ → ℕ → Access
access kind why p b v = record { address = p; bank = b; value = v; kind = kind; purpose = why }

-- what a write leaves of the bus
abbrev pub bus_after : Bank → ℕ → ℕ → Bus → List ℕ → Bus
bus_after κ p v u i = (stored images (world u i) κ p v).bus

-- one write, and the sixteen bytes r' after it
pub record Writes (why : Purpose) (κ : Bank) (p v k : ℕ) (s : State) (i l r' i' l' : List ℕ) : Type 0 where
  pub bytes : r' ≡ record_of (moved s.cpu (bus_after κ p v s.bus i) s)
  pub goes : Goes {A = Unit {0}} (write why κ p v (done tt)) k s.bus i l tt (k + 1) (bus_after κ p v s.bus i) i' l'

-- the same where the tree's result is the registers and the sixteen bytes r' stand for what is left
pub record Does (t : Cycles Cpu) (k : ℕ) (s : State) (i l : List ℕ) (n : ℕ) (r' i' l' : List ℕ) : Type 0 where
  pub cpu : Cpu
  pub bus : Bus
  pub bytes : r' ≡ record_of (moved cpu bus s)
  pub goes : Goes t k s.bus i l cpu n bus i' l'
