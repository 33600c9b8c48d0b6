-- Addresses with a rule of the part's own, where there is one bank.
use Prim.Native.Nat.{ℕ}
use mathlib.Core.Path.{◌≡◌}
use Rattle.rules.specs.Basics.{when◌then◌else◌}
use Rattle.rules.specs.Bus.{is6508}
use Rattle.wiring.specs.Wiring.{plain_of, Part, the6502, the6508, the6509}

pub plain_is : (n : ℕ) → Part n → (n ≡ 9 → ⊥) → (when is6508 n then 512 else 0) ≡ plain_of n
plain_is n (the6502 e) h = rw e
plain_is n (the6508 e) h = rw e
plain_is n (the6509 e) h = absurd (h e)
