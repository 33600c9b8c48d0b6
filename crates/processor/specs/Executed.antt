-- The instruction at PC, from a record on: it is executed, or its opcode is undefined and nothing changes.
use Rattle.std.specs.Prelude.{◌≡◌, ℕ, ◌/◌, ◌≤◌, true, false, List}
use Rattle.rules.specs.declared.State.{State}
use Rattle.rules.specs.Bus.{images}
use Rattle.rules.specs.Record.{record_of}
use Rattle.rules.specs.Opcodes.{decode, is_defined}
use Rattle.rules.specs.Operations.{instruction}
use Rattle.rules.specs.Step.{opcode_of}
use Rattle.laws.specs.Goes.{Does}
use Rattle.wiring.specs.Wiring.{Banked, Sound}

-- the sixteen bytes r stand for the state s, whose bus has the pins p and an image of n bytes
pub record Begins (s : State) (r : List ℕ) (p n : ℕ) : Type 0 where
  pub bytes : r ≡ record_of s
  pub sound : Sound s.bus
  pub banked : Banked n
  pub pins : s.bus.pins ≡ p
  pub banks : s.bus.banks ≡ n / 65536

pub record Executed (s : State) (i l : List ℕ) (n : ℕ) (r' i' l' : List ℕ) : Type 0 where
  pub does : is_defined (decode (opcode_of images s i)) ≡ true → (1 ≤ n) × Does (instruction s.cpu) 0 s i l n r' i' l'
  pub refuses : is_defined (decode (opcode_of images s i)) ≡ false → (n ≡ 0) × (r' ≡ record_of s) × (i' ≡ i) × (l' ≡ l)
