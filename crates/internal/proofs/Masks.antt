-- P with one flag set or cleared by a mask: claims that are computed at every P.
use Rattle.std.proofs.Common.{◌≡◌, ℕ, Bool, true, false, ◌&&◌, eqb, List, [], ◌∷◌, sym, refl, ap, ◌∙◌, arith, eqb-true}
use lib.Bits.{bit_and, bit_or}
use Rattle.rules.specs.declared.Flags.{Flags}
use Rattle.rules.specs.Basics.{all}
use Rattle.rules.specs.Flags.{flags_of, byte_of, with_v, with_d, with_i, with_c}
use Rattle.laws.proofs.Tests.{and_left, and_right, all_at}
use Rattle.laws.proofs.Records.{flags_again}
use Rattle.flags.proofs.Laws.{byte_most}

-- CLC, SEC, SEI, CLV, CLD, SED
abbrev claims : Flags → List (ℕ × ℕ)
claims f =
    (bit_and (byte_of f) 254, byte_of (with_c false f)) ∷ (bit_or (byte_of f) 1, byte_of (with_c true f)) ∷
    (bit_or (byte_of f) 4, byte_of (with_i true f)) ∷ (bit_and (byte_of f) 191, byte_of (with_v false f)) ∷
    (bit_and (byte_of f) 247, byte_of (with_d false f)) ∷ (bit_or (byte_of f) 8, byte_of (with_d true f)) ∷
    []

abbrev Each : List (ℕ × ℕ) → Type 0
Each [] = Unit {0}
Each (p ∷ l) = (p.0 ≡ p.1) × Each l

abbrev holds_each : List (ℕ × ℕ) → Bool
holds_each [] = true
holds_each (p ∷ l) = eqb p.0 p.1 && holds_each l

each : (l : List (ℕ × ℕ)) → holds_each l ≡ true → Each l
each [] h = tt
each (p ∷ l) h =
    let b = eqb p.0 p.1 in
    (eqb-true p.0 p.1 (and_left b (holds_each l) h), each l (and_right b (holds_each l) h))

test : ℕ → Bool
test p = holds_each (claims (flags_of p))

tests : all 256 test ≡ true
unfolding test
tests = refl

pub masked : (f : Flags) → Each (claims f)
unfolding test
masked f =
    each (claims f)
    (ap (λ (g : Flags). holds_each (claims g)) (sym (flags_again f)) ∙ all_at 256 test tests (byte_of f) (omega (arith, byte_most f)))
