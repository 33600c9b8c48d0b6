-- Laws of counting by page: a count is how many records of the list are of its page and kind; all counts together are the number of
-- records; lists that are fed one after another leave the counts of the joined list.
use Prim.Native.Nat.{ℕ, zero, suc, ◌+◌, ◌*◌, ◌%◌, ◌≤◌, ◌<◌}
use native.Mathlib.Omega.{arith}
use native.Mathlib.Nat.{le_refl}
use mathlib.Core.Path.{◌≡◌, refl, sym, ap, ◌∙◌}
use mathlib.Core.Bool.{Bool, true, false, ◌&&◌}
use mathlib.Core.List.{List, [], ◌∷◌, ◌++◌}
use lib.Dec.{eqb, eqb-zero-suc, eqb-suc-zero, eqb-suc-suc}
use lib.ListN.{length, set, length-set, length-append, get_or-append}
use lib.Seq.{get_or-append-add}
use borrow.Author.Tests.{leb-true, eqb-true}
use Rattle.rules.specs.Basics.{when◌then◌else◌, all, bit, at}
use Rattle.rules.specs.declared.Refusal.{Refusal}
use Rattle.std.specs.Prelude.{Result, Ok, Err}
use Rattle.rules.specs.declared.Counting.{Counting}
use Rattle.rules.specs.Answers.{Test, tested}
use Rattle.rules.specs.Pages.{page_of, kind_of, is_record, raised, counted, sum, records_in, count_tests, counting, fed}
use Rattle.laws.proofs.Tests.{and_left, and_right, and_true, if_case, Hold, tested_case, tested_all}

sum_set : (l : List ℕ) (p v : ℕ) → p < length l → sum (set l p v) + at l p ≡ sum l + v
unfolding sum
sum_set [] p v h = omega arith
sum_set (x ∷ l) zero v h = omega arith
sum_set (x ∷ l) (suc p) v h = let e = sum_set l p v (omega arith) in omega arith

sum_raised : (l : List ℕ) (p : ℕ) → p < length l → sum (raised l p) ≡ sum l + 1
sum_raised l p h = let e = sum_set l p (at l p + 1) h in omega arith

pub at_sum : (l : List ℕ) (p : ℕ) → at l p ≤ sum l
unfolding sum
at_sum [] p = omega arith
at_sum (x ∷ l) zero = omega arith
at_sum (x ∷ l) (suc p) = let h = at_sum l p in omega arith

set_most : (l : List ℕ) (q v p m : ℕ) → at l p ≤ m → v ≤ m → at (set l q v) p ≤ m
set_most [] q v p m h k = h
set_most (x ∷ l) zero v zero m h k = k
set_most (x ∷ l) zero v (suc p) m h k = h
set_most (x ∷ l) (suc q) v zero m h k = h
set_most (x ∷ l) (suc q) v (suc p) m h k = set_most l q v p m h k

module _ (kind : ℕ) (counts l : List ℕ) where
  pub counted_length : (n : ℕ) → length (counted kind counts l n) ≡ length counts
  unfolding counted
  counted_length zero = refl
  counted_length (suc n) =
      if_case (λ (d : List ℕ). length d ≡ length counts) (eqb (kind_of l n) kind) _ _
      (λ h. length-set (counted kind counts l n) (page_of l n) _ ∙ counted_length n) (λ h. counted_length n)

  -- n records raise all counts together by n at most
  pub counted_sum : (n p : ℕ) → at (counted kind counts l n) p ≤ sum counts + n
  unfolding counted
  counted_sum zero p = let h = at_sum counts p in omega arith
  counted_sum (suc n) p =
      let h = counted_sum n p in
      let k = counted_sum n (page_of l n) in
      if_case (λ (d : List ℕ). at d p ≤ sum counts + suc n) (eqb (kind_of l n) kind) _ _
      (λ e. set_most (counted kind counts l n) (page_of l n) _ p (sum counts + suc n) (omega arith) (omega arith)) (λ e. omega arith)

and_assoc : (a b c : Bool) → (a && (b && c)) ≡ ((a && b) && c)
and_assoc true b c = refl
and_assoc false b c = refl

-- how many of the first n numbers pass a test
abbrev pub how_many : ℕ → (ℕ → Bool) → ℕ
how_many zero f = 0
how_many (suc n) f = how_many n f + bit (f n)

raised_at : (counts : List ℕ) (q p : ℕ) → p < length counts → at (raised counts q) p ≡ at counts p + bit (eqb q p)
raised_at [] q p h = absurd (omega arith)
raised_at (x ∷ l) zero zero h = refl
raised_at (x ∷ l) zero (suc p) h = rw eqb-zero-suc (omega arith)
raised_at (x ∷ l) (suc q) zero h = rw eqb-suc-zero (omega arith)
raised_at (x ∷ l) (suc q) (suc p) h = rw eqb-suc-suc (raised_at l q p (omega arith))

-- A count is what it was, and how many of the records are of its kind and page.
module _ (kind : ℕ) (counts l : List ℕ) (p : ℕ) (inside : p < length counts) where
  abbrev of_page : ℕ → Bool
  of_page k = eqb (kind_of l k) kind && eqb (page_of l k) p

  one_more : (b : Bool) (before : List ℕ) (n : ℕ) → p < length before →
      at (when b then raised before (page_of l n) else before) p ≡ at before p + bit (b && eqb (page_of l n) p)
  one_more true before n h = raised_at before (page_of l n) p h
  one_more false before n h = omega arith

  pub counted_at : (n : ℕ) → at (counted kind counts l n) p ≡ at counts p + how_many n of_page
  unfolding counted
  counted_at zero = omega arith
  counted_at (suc n) =
      let h : p < length (counted kind counts l n) = rw (counted_length kind counts l n) inside in
      let e = one_more (eqb (kind_of l n) kind) (counted kind counts l n) n h in
      let i = counted_at n in
      omega arith

-- every element is a byte
abbrev pub Bytes : List ℕ → Type 0
Bytes l = (k : ℕ) → at l k < 256

-- a record raises one of the two counts of its page
one_raised : (kind p : ℕ) (r w : List ℕ) → kind ≤ 1 → p < length r → p < length w →
    sum (when eqb kind 0 then raised r p else r) + sum (when eqb kind 1 then raised w p else w) ≡ sum r + sum w + 1
one_raised zero p r w h i j = let e = sum_raised r p i in omega arith
one_raised (suc zero) p r w h i j = let e = sum_raised w p j in omega arith
one_raised (suc (suc k)) p r w h i j = absurd (omega arith)

module _ (r w l : List ℕ) (pages : length r ≡ 256) (pages' : length w ≡ 256) (bytes : Bytes l) where
  -- "their sum is the number of records"
  pub total : (n : ℕ) → all n (is_record l) ≡ true → sum (counted 0 r l n) + sum (counted 1 w l n) ≡ sum r + sum w + n
  unfolding counted
  total zero h = omega arith
  total (suc n) h =
      let e = total n (and_right (is_record l n) _ h) in
      let k = leb-true (kind_of l n) 1 (and_left _ _ (and_left _ _ (and_left _ _ (and_left (is_record l n) _ h)))) in
      let i : page_of l n < length (counted 0 r l n) = rw (counted_length 0 r l n, pages) (bytes _) in
      let j : page_of l n < length (counted 1 w l n) = rw (counted_length 1 w l n, pages') (bytes _) in
      let u = one_raised (kind_of l n) (page_of l n) (counted 0 r l n) (counted 1 w l n) k i j in
      omega arith

-- A list that is fed before another: whole records, and what the joined list has at each of them.
module _ (l m : List ℕ) (whole : length l % 8 ≡ 0) where
  before : (k i : ℕ) → k < records_in l → i < 8 → at (l ++ m) (8 * k + i) ≡ at l (8 * k + i)
  before k i h e = get_or-append l m 0 (8 * k + i) (omega arith)

  behind : (k i : ℕ) → at (l ++ m) (8 * (records_in l + k) + i) ≡ at m (8 * k + i)
  behind k i = let e : 8 * (records_in l + k) + i ≡ length l + (8 * k + i) = omega arith in rw e (get_or-append-add l m (8 * k + i) 0)

  record_before : (k : ℕ) → k < records_in l → is_record (l ++ m) k ≡ is_record l k
  record_before k h = rw (before k 4 h (omega arith), before k 5 h (omega arith), before k 6 h (omega arith), before k 7 h (omega arith))

  record_behind : (k : ℕ) → is_record (l ++ m) (records_in l + k) ≡ is_record m k
  record_behind k = rw (behind k 4, behind k 5, behind k 6, behind k 7)

  all_before : (n : ℕ) → n ≤ records_in l → all n (is_record (l ++ m)) ≡ all n (is_record l)
  all_before zero h = refl
  all_before (suc n) h = rw (record_before n h, all_before n (omega arith))

  pub rest_joined : length (l ++ m) % 8 ≡ length m % 8
  rest_joined = rw (length-append l m) (omega arith)

  pub records_joined : records_in (l ++ m) ≡ records_in l + records_in m
  records_joined = rw (length-append l m) (omega arith)

  all_behind : (n : ℕ) → all (records_in l + n) (is_record (l ++ m)) ≡ (all n (is_record m) && all (records_in l) (is_record l))
  all_behind zero = let e : records_in l + 0 ≡ records_in l = omega arith in rw e (all_before (records_in l) (le_refl (records_in l)))
  all_behind (suc n) =
      let e : records_in l + suc n ≡ suc (records_in l + n) = omega arith in
      rw (e, record_behind n, all_behind n) (and_assoc (is_record m n) _ _)

  -- the joined list's records are those of both
  pub all_joined : all (records_in (l ++ m)) (is_record (l ++ m)) ≡ (all (records_in m) (is_record m) && all (records_in l) (is_record l))
  all_joined = rw records_joined (all_behind (records_in m))

  module _ (kind : ℕ) (counts : List ℕ) where
    counted_before : (n : ℕ) → n ≤ records_in l → counted kind counts (l ++ m) n ≡ counted kind counts l n
    unfolding counted
    counted_before zero h = refl
    counted_before (suc n) h = rw (before n 4 h (omega arith), before n 1 h (omega arith), counted_before n (omega arith))

    counted_behind : (n : ℕ) → counted kind counts (l ++ m) (records_in l + n) ≡ counted kind (counted kind counts l (records_in l)) m n
    unfolding counted
    counted_behind zero =
        let e : records_in l + 0 ≡ records_in l = omega arith in rw e (counted_before (records_in l) (le_refl (records_in l)))
    counted_behind (suc n) =
        let e : records_in l + suc n ≡ suc (records_in l + n) = omega arith in rw (e, behind n 4, behind n 1, counted_behind n)

apart : (e : Refusal) → ◌≡◌ {A = Result (Unit {0}) Refusal} (Err e) (Ok tt) → ⊥
apart e h = let z : ◌≡◌ {A = ℕ} 0 1 = cc in omega arith

-- What was counted passed every test, and what passes every test is counted.
module _ (r w l : List ℕ) where
  pub fed_holds : (fed r w l).answer ≡ Ok tt → Hold (count_tests r w l)
  unfolding fed
  fed_holds =
      tested_case (λ (k : Counting). k.answer ≡ Ok tt → Hold (count_tests r w l)) (count_tests r w l) (λ e. counting (Err e) r w) _
      (λ e h. absurd (apart e h)) (λ hs h. hs)

  pub fed_counted : Hold (count_tests r w l) → fed r w l ≡ counting (Ok tt) (counted 0 r l (records_in l)) (counted 1 w l (records_in l))
  unfolding fed
  fed_counted hs = tested_all (count_tests r w l) (λ e. counting (Err e) r w) _ hs

-- "From any number of access lists fed one after another .. The counts equal those of the joined list": where l was counted, the tests of
-- m on what l left are the tests of l ++ m on what was there before l; and so are the counts.
module _ (r w l m : List ℕ) (pages : length r ≡ 256) (pages' : length w ≡ 256) (bytes : Bytes l) (first : Hold (count_tests r w l)) where
  abbrev reads : List ℕ
  reads = counted 0 r l (records_in l)

  abbrev writes : List ℕ
  writes = counted 1 w l (records_in l)

  whole : length l % 8 ≡ 0
  whole = eqb-true (length l % 8) 0 first.0

  pub joined_tests : count_tests r w (l ++ m) ≡ count_tests reads writes m
  joined_tests =
      let t = total r w l pages pages' bytes (records_in l) first.1.0 in
      let s : sum r + sum w + (records_in l + records_in m) ≡ sum reads + sum writes + records_in m = omega arith in
      rw (rest_joined l m whole, all_joined l m whole, first.1.0, and_true (all (records_in m) (is_record m)), records_joined l m whole, s)

  pub joined : fed r w (l ++ m) ≡ tested (count_tests reads writes m) (λ e. counting (Err e) r w)
      (counting (Ok tt) (counted 0 reads m (records_in m)) (counted 1 writes m (records_in m)))
  unfolding fed
  joined =
      ap
      (λ (ts : List Test). tested ts (λ e. counting (Err e) r w)
      (counting (Ok tt) (counted 0 r (l ++ m) (records_in (l ++ m))) (counted 1 w (l ++ m) (records_in (l ++ m))))) joined_tests
      ∙ (rw (records_joined l m whole, counted_behind l m whole 0 r (records_in m), counted_behind l m whole 1 w (records_in m)))

-- a list that is counted, and then another, leave what both joined leave
pub fed_joined : (r w l m : List ℕ) → length r ≡ 256 → length w ≡ 256 → Bytes l → (fed r w l).answer ≡ Ok tt →
    (fed (fed r w l).reads (fed r w l).writes m).answer ≡ Ok tt → fed r w (l ++ m) ≡ fed (fed r w l).reads (fed r w l).writes m
fed_joined r w l m pages pages' bytes e =
    let hs = fed_holds r w l e in
    rw (fed_counted r w l hs)
    (λ k.
    let ks = fed_holds _ _ m k in
    joined r w l m pages pages' bytes hs
    ∙ tested_all (count_tests (counted 0 r l (records_in l)) (counted 1 w l (records_in l)) m) (λ e. counting (Err e) r w) _ ks
    ∙ sym (fed_counted _ _ m ks))

-- "their sum is the number of records"
pub fed_total : (r w l : List ℕ) → length r ≡ 256 → length w ≡ 256 → Bytes l → (fed r w l).answer ≡ Ok tt →
    sum (fed r w l).reads + sum (fed r w l).writes ≡ sum r + sum w + records_in l
fed_total r w l pages pages' bytes e =
    let hs = fed_holds r w l e in rw (fed_counted r w l hs) (total r w l pages pages' bytes (records_in l) hs.1.0)
