-- A line's characters, one by one: where its comment begins, and how deep its brackets are.
use Rattle.std.proofs.Common.{◌≡◌, ℕ, suc, ◌+◌, ◌≤◌, Bool, true, false, not, cond, ltb, eqb, List, [], ◌∷◌, length, take}
use Rattle.std.proofs.Common.{Some, None, unwrap_or, position, refl, sym, ap, ◌∙◌, arith, ltb-true, ltb-false, take_all}
use Rattle.std.specs.List.{position_or_len}
use Rattle.rules.specs.Basics.{when◌then◌else◌}
use Rattle.assembly_rules.specs.Lines.{content}

abbrev pub is_comment : ℕ → Bool
is_comment c = eqb c 59

content_at : (l : List ℕ) → content l ≡ take (position_or_len is_comment l) l
content_at [] = refl
content_at (c ∷ l) = go (is_comment c) (content_at l)
  where
    go : (b : Bool) → content l ≡ take (position_or_len is_comment l) l →
        (when b then [] else c ∷ content l) ≡ take (cond (not b) (1 + position_or_len is_comment l) 0) (c ∷ l)
    go true e = refl
    go false e =
        let more : 1 + position_or_len is_comment l ≡ suc (position_or_len is_comment l) = omega arith in
        rw more (ap (λ (m : List ℕ). c ∷ m) e)

-- a line up to the semicolon that the search found, or all of it
pub content_found : (l : List ℕ) (n : ℕ) → n ≡ unwrap_or (position is_comment l) (length l) → (content l ≡ take n l) × (n ≤ length l)
content_found l n h = rw h (go (ltb k (length l)) refl)
  where
    k : ℕ
    k = position_or_len is_comment l

    go : (b : Bool) → ltb k (length l) ≡ b →
        (content l ≡ take (unwrap_or (cond b (Some k) None) (length l)) l) × (unwrap_or (cond b (Some k) None) (length l) ≤ length l)
    go true e = let f = ltb-true k (length l) e in (content_at l, omega arith)
    go false e =
        let f = ltb-false k (length l) e in
        (content_at l ∙ take_all k l f ∙ sym (take_all (length l) l (omega arith)), omega arith)
