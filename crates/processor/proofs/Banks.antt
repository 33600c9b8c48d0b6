-- Which modes find their data in the execution bank.
use Rattle.std.proofs.Common.{◌≡◌, ℕ, refl}
use Rattle.rules.specs.declared.Mode.{Mode}
use Rattle.rules.specs.declared.Mode.TheVariants.{Immediate, Zero, ZeroX, ZeroY, Absolute, AbsoluteX, AbsoluteY, IndirectX, IndirectY}
use Rattle.rules.specs.declared.Mode.TheVariants.{IndirectBankY}
use Rattle.rules.specs.Cycles.{execution}
use Rattle.rules.specs.Addressing.{bank_of}

-- all but the last
pub in_bank : (m : Mode) → ((z : ℕ) → m ≡ IndirectBankY z → ⊥) → bank_of m ≡ execution
in_bank (Immediate v) h = refl
in_bank (Zero z) h = refl
in_bank (ZeroX z) h = refl
in_bank (ZeroY z) h = refl
in_bank (Absolute low high) h = refl
in_bank (AbsoluteX low high) h = refl
in_bank (AbsoluteY low high) h = refl
in_bank (IndirectX z) h = refl
in_bank (IndirectY z) h = refl
in_bank (IndirectBankY z) h = absurd (h z refl)
