-- How a sum goes on from what is read of it so far, and what a term begins with.
use Rattle.std.proofs.Common.{◌≡◌, ℕ, zero, suc, ◌-◌, ◌<◌, ◌≤◌, ltb, eqb, ◌&&◌, Bool, true, false, List, Option, Some, None, length, drop}
use Rattle.std.proofs.Common.{refl, ◌∙◌, arith, lt-ltb, ne_eqb, SomeIff}
use Rattle.rules.specs.Basics.{when◌then◌else◌}
use Rattle.assembly_rules.specs.Characters.{next}
use Rattle.assembly_rules.specs.Sums.{Read, value, none, is_sign, total_of, joined, go_on, closed, number, term, sum_by}
use Rattle.operands.specs.declared.Character.{Character}
use Rattle.operands.specs.declared.Found.{Found}
use Rattle.operands.specs.Places.{Ahead, read_at, Finds}

-- what is found so far, and how many signs may follow
pub record Summing (s : List ℕ) (at depth : ℕ) (f : Found) (k : ℕ) : Type 0 where
  pub same : sum_by (term depth) (drop at s) ≡ go_on (term depth) k (read_at s f)
  pub within : f.at ≤ length s

-- one sign and term more, where so many may follow
pub going_on : (read : List ℕ → Read) (k v : ℕ) (four : Bool) (s : List ℕ) →
    go_on read k (value v four s) ≡
    (when ltb 0 k && is_sign (next s).character then go_on read (k - 1) (joined v (next s).character (read (next s).rest))
    else value v four s)
going_on read zero v four s = refl
going_on read (suc k) v four s = let p : suc k - 1 ≡ k = omega arith in rw (p, lt-ltb 0 (suc k) (omega arith))

-- what a term begins with, and that a bracketed one is less deep
pub term_when : (depth : ℕ) (s : List ℕ) →
    term depth s ≡
    (when eqb (next s).character 36 then number (next s).rest
    else when eqb (next s).character 91 then (when ltb 0 depth then closed (sum_by (term (depth - 1)) (next s).rest) else none)
    else none)
unfolding term
term_when zero s = go (eqb (next s).character 36) (eqb (next s).character 91)
  where
    go : (a b : Bool) → (when a then number (next s).rest else none) ≡ (when a then number (next s).rest else when b then none else none)
    go true b = refl
    go false true = refl
    go false false = refl
term_when (suc d) s = let p : suc d - 1 ≡ d = omega arith in rw (p, lt-ltb 0 (suc d) (omega arith))

module _ (s : List ℕ) (at depth c : ℕ) (n : Character) (ahead : Ahead (next (drop at s)) s n) (is : n.character ≡ Some c) where
  pub term_bracket : (d : ℕ) (f : Found) (r : Option Found) → c ≡ 91 → SomeIff (Some d) (1 ≤ depth) (depth - 1) →
      Finds (sum_by (term d) (drop n.at s)) s (Some f) → Finds (closed (read_at s f)) s r → Finds (term depth (drop at s)) s r
  term_bracket d f r e l i g =
      let there = rw is at ahead.same in
      record {
        same = term_when depth (drop at s) ∙ (rw (there, e, lt-ltb 0 depth l.0, ← l.1) (rw i.same g.same));
        within = g.within;
      }

  pub term_other : (c ≡ 36 → ⊥) → (c ≡ 91 → ⊥) → Finds (term depth (drop at s)) s None
  term_other p q =
      let there = rw is at ahead.same in
      record { same = term_when depth (drop at s) ∙ (rw (there, ne_eqb c 36 p, ne_eqb c 91 q)); within = tt }

-- What a sign leads to.
module _ (s : List ℕ) (at depth k : ℕ) (f : Found) (so : Summing s at depth f k) (z : 0 < k) (n : Character) (sign : ℕ)
    (ahead : Ahead (next (drop f.at s)) s n) (is : n.character ≡ Some sign) (h : is_sign sign ≡ true) where
  signed : sum_by (term depth) (drop at s) ≡ go_on (term depth) (k - 1) (joined f.value sign (term depth (drop n.at s)))
  signed =
      let there = rw is at ahead.same in
      so.same ∙ going_on (term depth) k f.value f.four (drop f.at s) ∙ (rw (there, h, lt-ltb 0 k z))

  pub sum_none : (r : Option Found) → Finds (term depth (drop n.at s)) s None → r ≡ None → Finds (sum_by (term depth) (drop at s)) s r
  sum_none r t e = rw e (record { same = signed ∙ (rw t.same (nothing (k - 1))); within = tt })
    where
      nothing : (j : ℕ) → go_on (term depth) j none ≡ none
      nothing zero = refl
      nothing (suc j) = refl

  pub sum_more : (t : Found) (v j : ℕ) → Finds (term depth (drop n.at s)) s (Some t) → v ≡ total_of f.value sign t.value →
      j ≡ k - 1 → Summing s at depth (record { value = v; four = false; at = t.at }) j
  sum_more t v j e w less = rw (w, less) (record { same = signed ∙ (rw e.same); within = e.within })
