-- The two modes by (z),Y, through a pointer: they differ in the bank of the data alone.
use Rattle.std.proofs.Common.{◌≡◌, ℕ, ◌+◌, ◌≤◌, List, sym, ap, ◌∙◌, arith}
use Rattle.rules.specs.declared.Cpu.{Cpu}
use Rattle.rules.specs.declared.Mode.{Mode}
use Rattle.rules.specs.declared.Mode.TheVariants.{IndirectY, IndirectBankY}
use Rattle.rules.specs.declared.State.{State}
use Rattle.rules.specs.Cycles.{Bank, execution, indirect, Cycles}
use Rattle.rules.specs.Addressing.{bank_of}
use Rattle.laws.specs.Sizes.{mode_size}
use Rattle.laws.proofs.Lengths.{place_most}
use Rattle.processor.specs.Rest.{past, Reaches}

pub data Through (m : Mode) (z : ℕ) : Type 0 where
  in_execution : m ≡ IndirectY z → Through m z
  in_indirect : m ≡ IndirectBankY z → Through m z

pub as_execution : {m : Mode} {z n : ℕ} → m ≡ IndirectY n → z ≡ n → Through m z
as_execution e d = in_execution (e ∙ ap IndirectY (sym d))

pub as_indirect : {m : Mode} {z n : ℕ} → m ≡ IndirectBankY n → z ≡ n → Through m z
as_indirect e d = in_indirect (e ∙ ap IndirectBankY (sym d))

pub through_most : {m : Mode} {z : ℕ} → Through m z → 5 ≤ mode_size m + place_most m
through_most (in_execution e) = rw e (omega arith)
through_most (in_indirect e) = rw e (omega arith)

-- what f finds by such a mode is what g finds in its bank
module _ (f : Cpu → Mode → Cycles ℕ) (g : Bank → ℕ → ℕ → Cycles ℕ)
    (p : (c : Cpu) (z : ℕ) → f c (IndirectY z) ≡ g execution z c.y)
    (q : (c : Cpu) (z : ℕ) → f c (IndirectBankY z) ≡ g indirect z c.y) where
  pub reaches_through : {m : Mode} {z : ℕ} {s : State} {i l r' l' : List ℕ} {v k : ℕ} → Through m z →
      Reaches 2 (g (bank_of m) z s.cpu.y) s i l v k r' l' →
      Reaches (mode_size m) (f (past (mode_size m) s.cpu) m) s i l v k r' l'
  reaches_through {z = z} {s = s} (in_execution e) d = rw e (rw (p (past 2 s.cpu) z) (rw e at d))
  reaches_through {z = z} {s = s} (in_indirect e) d = rw e (rw (q (past 2 s.cpu) z) (rw e at d))
