-- What the searches of a map say of it.
use Rattle.std.proofs.Common.{◌≡◌, ℕ, zero, suc, ◌-◌, ◌<◌, ◌≤◌, Bool, true, false, ◌&&◌, ◌||◌, ltb, List, [], length, get_or}
use Rattle.std.proofs.Common.{sym, ap, refl, ◌∙◌, arith, ne_eqb, ltb-true, ltb-false}
use native.Mathlib.Decide.{dec_le, ℕ_discrete}
use Rattle.admission_rules.specs.Admission.{mark_at, marks_in, some, marked, is_mark, ascends}
use Rattle.admission_rules.specs.declared.Mark.{Mark}
use Rattle.std.specs.List.Sorted.{IsPartitionedBy, IsPartitionPoint}
use Rattle.std.proofs.lemmas.List.Sorted.{IsPartitionedBy-ltb, IsNonDecreasingBy-from_default}
use Rattle.admission.specs.Maps.{bytes_of, mark_of, Ascending, Found}
use Rattle.admission.proofs.Chunks.{marks_in-bytes_of, mark_at-bytes_of}

pub ascends-next : (map : List ℕ) (i : ℕ) → (i ≡ 0 → ⊥) → (m n : Mark) → m ≡ mark_at map (i - 1) → n ≡ mark_at map i →
    ltb m.address n.address ≡ ascends map i
ascends-next map zero h m n p q = absurd (h refl)
ascends-next map (suc i) h m n p q = let e : suc i - 1 ≡ i = omega arith in rw (p, q, e)

pub in_order : (map : List ℕ) → Ascending map → (j k : ℕ) → j ≤ k → k < marks_in map → (mark_at map j).address ≤ (mark_at map k).address
in_order map asc j k h n = go (ℕ_discrete j k)
  where
    go : Dec (j ≡ k) → (mark_at map j).address ≤ (mark_at map k).address
    go (yes e) = rw e (omega arith)
    go (no d) = omega (arith, asc.ascends j k (omega arith) n)

or-false : (b : Bool) → (b || false) ≡ b
or-false true = refl
or-false false = refl

-- what a search by parts of its records says of a map
module _ (rs : List (List ℕ)) (p : ℕ) where
  abbrev address_of : List ℕ → ℕ
  address_of r = (mark_of r).address

  at-bytes : (k : ℕ) → k < length rs → (mark_at (bytes_of rs) k).address ≡ address_of (get_or rs k [])
  at-bytes k h = ap (λ (m : Mark). m.address) (mark_at-bytes_of rs k h)

  pub parted : Ascending (bytes_of rs) → IsPartitionedBy (λ r. ltb (address_of r) p) rs
  parted asc =
      let within = marks_in-bytes_of rs in
      IsPartitionedBy-ltb address_of rs p
      (IsNonDecreasingBy-from_default address_of rs []
      (λ i j h l. rw (← at-bytes i (omega arith), ← at-bytes j l) (in_order _ asc i j h (omega arith))))

  pub found : (r : ℕ) → r ≤ length rs →
      IsPartitionPoint (λ y. ltb (address_of y) p ≡ true) (λ y. ltb (address_of y) p ≡ false) rs r → Found (bytes_of rs) p r
  found r h part =
      let within = marks_in-bytes_of rs in
      record {
        within = omega arith;
        below = λ k l. rw (at-bytes k (omega arith)) (ltb-true _ _ (part.0 k [] (omega arith) l));
        above = λ k l n. rw (at-bytes k (omega arith)) (ltb-false _ _ (part.1 k [] l (omega arith)));
      }

  pub found_at : Ascending (bytes_of rs) → (r : ℕ) → r < length rs → address_of (get_or rs r []) ≡ p → Found (bytes_of rs) p r
  found_at asc r h e =
      let within = marks_in-bytes_of rs in
      let here = at-bytes r h ∙ e in
      record {
        within = omega arith;
        below = λ k l. omega (arith, here, asc.ascends k r l (omega arith));
        above = λ k l n. omega (arith, here, in_order _ asc r k l n);
      }

-- none of the marks is as f says, or at most one of them
module _ (map : List ℕ) (f : Mark → Bool) where
  none_so : (n : ℕ) → ((k : ℕ) → k < n → f (mark_at map k) ≡ false) → some f map n ≡ false
  none_so zero h = refl
  none_so (suc n) h = rw (h n (omega arith)) (none_so n (λ k l. h k (omega arith)))

  one-so : (n j : ℕ) → j < n → ((k : ℕ) → k < n → (k ≡ j → ⊥) → f (mark_at map k) ≡ false) → some f map n ≡ f (mark_at map j)
  one-so zero j l h = absurd (omega arith)
  one-so (suc n) j l h = go (λ q. one-so n j q (λ k q. h k (omega arith))) (ℕ_discrete j n)
    where
      go : (j < n → some f map n ≡ f (mark_at map j)) → Dec (j ≡ n) → (f (mark_at map n) || some f map n) ≡ f (mark_at map j)
      go rest (yes e) = rw (e, none_so n (λ k q. h k (omega arith) (λ d. omega arith)), or-false (f (mark_at map n)))
      go rest (no d) = rw (h n (omega arith) (λ e. d (sym e))) (rest (omega arith))

-- what the map says of p: what its first record that is not below p says
module _ (map : List ℕ) (asc : Ascending map) (p kind height r : ℕ) (found : Found map p r) (f : ℕ → Bool) where
  abbrev so : Mark → Bool
  so s = is_mark p kind height s && f s.need

  elsewhere : (k : ℕ) → ((mark_at map k).address ≡ p → ⊥) → so (mark_at map k) ≡ false
  elsewhere k d = rw (ne_eqb (mark_at map k).address p d)

  pub unmarked : r ≡ marks_in map → marked map so ≡ false
  unmarked e = none_so map so (marks_in map) (λ k l. elsewhere k (λ d. omega (arith, found.below k (omega arith))))

  pub here : r < marks_in map → marked map so ≡ so (mark_at map r)
  here h = one-so map so (marks_in map) r h (λ k l d. elsewhere k (λ e. go k l d e (dec_le r k)))
    where
      go : (k : ℕ) → k < marks_in map → (k ≡ r → ⊥) → (mark_at map k).address ≡ p → Dec (r ≤ k) → ⊥
      go k l d e (yes q) = omega (arith, asc.ascends r k (omega arith) l, found.above r (omega arith) h)
      go k l d e (no q) = omega (arith, found.below k (omega arith))
