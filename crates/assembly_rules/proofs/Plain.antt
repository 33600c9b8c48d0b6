-- Text of plain characters: no control, no comment, no square bracket. It is one line, and it is its content.
use Prim.Native.Nat.{ℕ, ◌<◌}
use mathlib.Core.Path.{◌≡◌, refl, sym, ap}
use mathlib.Core.Bool.{Bool, true, false, ◌&&◌, not}
use mathlib.Core.List.{List, [], ◌∷◌, ◌++◌}
use borrow.Author.Tests.{eqb-true}
use lib.Dec.{eqb}
use Rattle.rules.specs.Basics.{all}
use Rattle.rules.specs.Text.{digit}
use Rattle.laws.proofs.Tests.{and_left, and_right, all_at}
use Rattle.assembly_rules.specs.Characters.{place, is_space}
use Rattle.assembly_rules.specs.Lines.{content, too_deep, written, line_of}
use Rattle.assembly_rules.specs.Assembly.{onto, lines_of}
use Rattle.assembly_rules.proofs.Cases.{texts, faults, listings}

pub record IsPlain (c : ℕ) : Type 0 where
  pub lf : eqb c 10 ≡ false
  pub cr : eqb c 13 ≡ false
  pub comment : eqb c 59 ≡ false
  pub opens : eqb c 91 ≡ false
  pub closes : eqb c 93 ≡ false

abbrev pub Plain : List ℕ → Type 0
Plain [] = Unit {0}
Plain (c ∷ l) = IsPlain c × Plain l

pub plain_append : (l m : List ℕ) → Plain l → Plain m → Plain (l ++ m)
plain_append [] m p q = q
plain_append (c ∷ l) m p q = (p.0, plain_append l m p.1 q)

content_plain : (l : List ℕ) → Plain l → content l ≡ l
content_plain [] p = refl
content_plain (c ∷ l) p = rw p.0.comment (ap (λ (m : List ℕ). c ∷ m) (content_plain l p.1))

deep_plain : (l : List ℕ) → Plain l → too_deep 0 l ≡ false
deep_plain [] p = refl
deep_plain (c ∷ l) p = rw (p.0.opens, p.0.closes) (deep_plain l p.1)

-- a plain line is what is written in it
pub line_plain : (a : ℕ) (l : List ℕ) → Plain l → line_of a l ≡ written a l
unfolding line_of
line_plain a l p = rw (content_plain l p, deep_plain l p)

pub lines_plain : (l rest : List ℕ) → Plain l → lines_of (l ++ 10 ∷ rest) ≡ l ∷ lines_of rest
unfolding lines_of
lines_plain [] rest p = refl
lines_plain (c ∷ l) rest p = rw (p.0.lf, p.0.cr) (ap (onto c) (lines_plain l rest p.1))

-- a test of it
abbrev pub is_plain : ℕ → Bool
is_plain c = not (eqb c 10) && not (eqb c 13) && not (eqb c 59) && not (eqb c 91) && not (eqb c 93)

abbrev pub all_plain : List ℕ → Bool
all_plain [] = true
all_plain (c ∷ l) = is_plain c && all_plain l

negated : (b : Bool) → not b ≡ true → b ≡ false
negated true h = sym h
negated false h = refl

five : (a b c d e : Bool) → (a && b && c && d && e) ≡ true → (a ≡ true) × (b ≡ true) × (c ≡ true) × (d ≡ true) × (e ≡ true)
five a b c d e h = search (and_left, and_right) depth 8

tested : (c : ℕ) → is_plain c ≡ true → IsPlain c
tested c h =
    let k = five (not (eqb c 10)) (not (eqb c 13)) (not (eqb c 59)) (not (eqb c 91)) (not (eqb c 93)) h in
    record {
      lf = negated _ k.0;
      cr = negated _ k.1;
      comment = negated _ k.2;
      opens = negated _ k.3;
      closes = negated _ k.4;
    }

pub all_plain_lem : (l : List ℕ) → all_plain l ≡ true → Plain l
all_plain_lem [] h = tt
all_plain_lem (c ∷ l) h = (tested c (and_left (is_plain c) (all_plain l) h), all_plain_lem l (and_right (is_plain c) (all_plain l) h))

-- What is known of the characters of digits and letters: one computed test on the 36.
abbrev known : ℕ → Bool
known n = let c = digit n in eqb (place c) n && not (is_space c) && is_plain c

all_known : all 36 known ≡ true
all_known = refl

-- a digit or letter of this place
pub record Digit (c n : ℕ) : Type 0 where
  pub placed : place c ≡ n
  pub solid : is_space c ≡ false
  pub plain : IsPlain c

three : (a b c : Bool) → (a && b && c) ≡ true → (a ≡ true) × (b ≡ true) × (c ≡ true)
three a b c h = search (and_left, and_right) depth 6

pub digit_known : (n : ℕ) → n < 36 → Digit (digit n) n
digit_known n h =
    -- what was computed comes first
    let texts_hold = texts in
    let faults_hold = faults in
    let listings_hold = listings in
    let c = digit n in
    let k = three (eqb (place c) n) (not (is_space c)) (is_plain c) (all_at 36 known all_known n h) in
    record { placed = eqb-true _ _ k.0; solid = negated _ k.1; plain = tested c k.2 }
