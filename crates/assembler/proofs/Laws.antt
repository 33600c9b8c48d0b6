-- How a text is cut into lines.
use Rattle.std.proofs.Common.{◌≡◌, ◌≢◌, ℕ, zero, suc, ◌<◌, Bool, true, false, ◌&&◌, eqb, List, [], ◌∷◌, ◌++◌, length, take, drop}
use Rattle.std.proofs.Common.{refl, ap, ◌∙◌, arith, eq-eqb, ne_eqb}
use Rattle.rules.specs.Basics.{when◌then◌else◌, at}
use Rattle.assembly_rules.specs.Assembly.{begins_with_lf, onto, lines_of}
use Rattle.assembler.specs.Cuts.{without_cr}

pub ends_in_cr : (l : List ℕ) (c : ℕ) → c ≡ 13 → without_cr (l ++ c ∷ []) ≡ l
ends_in_cr [] c e = rw (eq-eqb c 13 e)
ends_in_cr (a ∷ []) c e = rw (eq-eqb c 13 e)
ends_in_cr (a ∷ b ∷ l) c e = ap (λ (m : List ℕ). a ∷ m) (ends_in_cr (b ∷ l) c e)

pub ends_otherwise : (l : List ℕ) (c : ℕ) → c ≢ 13 → without_cr (l ++ c ∷ []) ≡ l ++ c ∷ []
ends_otherwise [] c e = rw (ne_eqb c 13 e)
ends_otherwise (a ∷ []) c e = rw (ne_eqb c 13 e)
ends_otherwise (a ∷ b ∷ l) c e = ap (λ (m : List ℕ). a ∷ m) (ends_otherwise (b ∷ l) c e)

-- a character in front of a line
goes_on : (c : ℕ) (s : List ℕ) → c ≢ 10 → begins_with_lf s ≡ false → lines_of (c ∷ s) ≡ onto c (lines_of s)
unfolding lines_of
goes_on c s e f = rw (ne_eqb c 10 e, f) (go (eqb c 13))
  where
    go : (b : Bool) → (when b && false then lines_of s else onto c (lines_of s)) ≡ onto c (lines_of s)
    go true = refl
    go false = refl

-- in front of its LF
last_one : (c d : ℕ) (s : List ℕ) → c ≢ 10 → d ≡ 10 → lines_of (c ∷ d ∷ s) ≡ without_cr (c ∷ []) ∷ lines_of s
unfolding lines_of
last_one c d s e f = rw (ne_eqb c 10 e, eq-eqb d 10 f) (go (eqb c 13))
  where
    go : (b : Bool) →
        (when b && true then [] ∷ lines_of s else onto c ([] ∷ lines_of s)) ≡ (when b then [] else c ∷ []) ∷ lines_of s
    go true = refl
    go false = refl

-- the text's first LF
pub first_line : (text : List ℕ) (k : ℕ) → k < length text → at text k ≡ 10 → ((i : ℕ) → i < k → at text i ≢ 10) →
    lines_of text ≡ without_cr (take k text) ∷ lines_of (drop (suc k) text)
unfolding lines_of
first_line [] k h e f = absurd (omega arith)
first_line (c ∷ s) zero h e f = rw (eq-eqb c 10 e)
first_line (c ∷ []) (suc k) h e f = absurd (omega arith)
first_line (c ∷ d ∷ s) (suc zero) h e f = last_one c d s (f 0 (omega arith)) e
first_line (c ∷ d ∷ s) (suc (suc k)) h e f =
    goes_on c (d ∷ s) (f 0 (omega arith)) (ne_eqb d 10 (f 1 (omega arith)))
    ∙ ap (onto c) (first_line (d ∷ s) (suc k) (omega arith) e (λ i l. f (suc i) (omega arith)))

-- no LF
pub only_line : (text : List ℕ) → 0 < length text → ((i : ℕ) → i < length text → at text i ≢ 10) → lines_of text ≡ text ∷ lines_of []
unfolding lines_of
only_line [] h f = absurd (omega arith)
only_line (c ∷ []) h f = goes_on c [] (f 0 (omega arith)) refl
only_line (c ∷ d ∷ s) h f =
    goes_on c (d ∷ s) (f 0 (omega arith)) (ne_eqb d 10 (f 1 (omega arith)))
    ∙ ap (onto c) (only_line (d ∷ s) (omega arith) (λ i l. f (suc i) (omega arith)))
