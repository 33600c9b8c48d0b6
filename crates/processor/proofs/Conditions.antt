-- A mask finds a flag.
use Rattle.std.proofs.Common.{◌≡◌, ℕ, ◌+◌, ◌-◌, ◌*◌, ◌/◌, ◌%◌, ◌^◌, true, false, not, sym, ◌∙◌, arith, pow_pos, eq-eqb, ne_eqb}
use native.Mathlib.Decide.{ℕ_discrete}
use lib.Bits.{bit_and, and_high}
use Rattle.rules.specs.declared.Condition.{Condition}
use Rattle.rules.specs.declared.Condition.TheVariants.{Bpl, Bmi, Bvc, Bvs, Bcc, Bcs, Bne, Beq}
use Rattle.rules.specs.Basics.{bit_of}
use Rattle.rules.specs.Flags.{flags_of}
use Rattle.rules.specs.Operations.{taken}
use Rattle.processor.specs.Conditions.{weight_of, sense_of}

-- the bit k of p
module _ (k p : ℕ) where
  masked : bit_and p (2 ^ (1 + k) - 2 ^ k) ≡ p / 2 ^ k % 2 * 2 ^ k
  masked = and_high p 1 k

  clear : bit_and p (2 ^ (1 + k) - 2 ^ k) ≡ 0 → bit_of (2 ^ k) p ≡ false
  clear h =
      ne_eqb (p / 2 ^ k % 2) 1
      (λ z. let e : 1 * 2 ^ k ≡ 0 = rw z at (sym masked ∙ h) in let some = pow_pos k in absurd (omega arith))

  set : (bit_and p (2 ^ (1 + k) - 2 ^ k) ≡ 0 → ⊥) → bit_of (2 ^ k) p ≡ true
  set h = go (ℕ_discrete (p / 2 ^ k % 2) 1)
    where
      go : Dec (p / 2 ^ k % 2 ≡ 1) → bit_of (2 ^ k) p ≡ true
      go (yes z) = eq-eqb (p / 2 ^ k % 2) 1 z
      go (no n) = let z : p / 2 ^ k % 2 ≡ 0 = omega (arith, n) in absurd (h (masked ∙ (rw z (omega arith))))

pub taken_clear : (t : Condition) (p : ℕ) → bit_and p (weight_of t) ≡ 0 → not (sense_of t) ≡ taken t (flags_of p)
unfolding taken
taken_clear Bpl p h = rw (clear 7 p h)
taken_clear Bmi p h = rw (clear 7 p h)
taken_clear Bvc p h = rw (clear 6 p h)
taken_clear Bvs p h = rw (clear 6 p h)
taken_clear Bcc p h = rw (clear 0 p h)
taken_clear Bcs p h = rw (clear 0 p h)
taken_clear Bne p h = rw (clear 1 p h)
taken_clear Beq p h = rw (clear 1 p h)

pub taken_set : (t : Condition) (p : ℕ) → (bit_and p (weight_of t) ≡ 0 → ⊥) → sense_of t ≡ taken t (flags_of p)
unfolding taken
taken_set Bpl p h = rw (set 7 p h)
taken_set Bmi p h = rw (set 7 p h)
taken_set Bvc p h = rw (set 6 p h)
taken_set Bvs p h = rw (set 6 p h)
taken_set Bcc p h = rw (set 0 p h)
taken_set Bcs p h = rw (set 0 p h)
taken_set Bne p h = rw (set 1 p h)
taken_set Beq p h = rw (set 1 p h)
