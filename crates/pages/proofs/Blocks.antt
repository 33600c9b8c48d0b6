-- A list that comes in blocks: what is answered of a block is what is answered of all so far.
use Prim.Native.Nat.{ℕ, ◌+◌, ◌%◌, ◌≤◌, ◌^◌}
use native.Mathlib.Omega.{arith}
use mathlib.Core.Path.{◌≡◌, refl, sym, ap, ◌∙◌}
use mathlib.Core.Bool.{Bool, true, false}
use mathlib.Core.List.{List, [], ◌++◌}
use borrow.Author.Tests.{eq-eqb, le-ltb, ltb-false}
use lib.Dec.{ltb}
use lib.ListN.{length}
use Rattle.rules.specs.declared.Refusal.{Refusal}
use Rattle.rules.specs.declared.Refusal.TheVariants.{ListRecord, Total}
use Rattle.std.specs.Prelude.{Ok, Err}
use Rattle.rules.specs.declared.Counting.{Counting}
use Rattle.rules.specs.Basics.{when◌then◌else◌, all}
use Rattle.rules.specs.Answers.{tested}
use Rattle.rules.specs.Pages.{is_record, records_in, counted, sum, form_tests, count_tests, counting, fed, none, counting_of}
use Rattle.laws.proofs.Tests.{and_true, Hold, tested_both}
use Rattle.laws.proofs.Counts.{Bytes, rest_joined, records_joined, all_joined, fed_counted, joined}
use Rattle.pages.specs.Blocks.{refused_by, onward, further}
use Rattle.pages.proofs.Counting.{and_false}
use Rattle.pages.proofs.Feeding.{malformed, full}

-- what feeding a block answers, and what becomes of the blocks before it
record Becomes (k k' : Counting) : Type 0 where
  counts : k.answer ≡ Ok tt → k ≡ k'
  refuses : (e : Refusal) → k.answer ≡ Err e → refused_by e ≡ k'

becomes : (r w m : List ℕ) → Becomes (fed r w m) (onward (Ok tt) r w m)
unfolding fed
becomes r w m =
    tested_both Becomes (count_tests r w m) (λ e. counting (Err e) r w) refused_by _ _
    (λ e.
    record {
      counts = λ h. let z : ◌≡◌ {A = ℕ} 0 1 = cc in absurd (omega arith);
      refuses = λ d h. let same : d ≡ e = cc in rw same;
    })
    (record { counts = λ h. refl; refuses = λ e h. let z : ◌≡◌ {A = ℕ} 0 1 = cc in absurd (omega arith) })

none_length : length none ≡ 256
unfolding none
none_length = refl

pub nothing : counting (Ok tt) none none ≡ counting_of []
unfolding fed sum none counted
nothing = refl

-- a block after blocks that are counted
pub block_counted : (r w m r' w' : List ℕ) → counting (Ok tt) r' w' ≡ fed r w m → counting (Ok tt) r' w' ≡ onward (Ok tt) r w m
block_counted r w m r' w' e = e ∙ (becomes r w m).counts (λ i. (sym e i).answer)

pub block_refused : (r w m r' w' : List ℕ) (d : Refusal) → counting (Err d) r' w' ≡ fed r w m → refused_by d ≡ onward (Ok tt) r w m
block_refused r w m r' w' d e = (becomes r w m).refuses d (λ i. (sym e i).answer)

-- Of a list l of whole records and a block m behind it.
module _ (l m : List ℕ) (bytes : Bytes l) (whole : length l % 8 ≡ 0) where
  same_if : (b : Bool) (k : Counting) → (when b then k else k) ≡ k
  same_if true k = refl
  same_if false k = refl

  still_malformed : all (records_in l) (is_record l) ≡ false →
      tested (form_tests m) refused_by (refused_by ListRecord) ≡ counting_of (l ++ m)
  unfolding fed
  still_malformed h =
      let every = all (records_in m) (is_record m) in
      rw (rest_joined l m whole, all_joined l m whole, h, and_false every, same_if every (refused_by ListRecord))

  still_full : all (records_in l) (is_record l) ≡ true → ltb (sum none + sum none + records_in l) (2 ^ 64) ≡ false →
      tested (form_tests m) refused_by (refused_by Total) ≡ counting_of (l ++ m)
  unfolding fed
  still_full h i =
      let t = sum none + sum none + records_in (l ++ m) in
      let past : 2 ^ 64 ≤ t = omega (arith, ltb-false (sum none + sum none + records_in l) (2 ^ 64) i, records_joined l m whole) in
      rw (rest_joined l m whole, all_joined l m whole, h, and_true (all (records_in m) (is_record m)), le-ltb t (2 ^ 64) past)

  -- each test of l, as it came out
  by_tests : (b c : Bool) → all (records_in l) (is_record l) ≡ b → ltb (sum none + sum none + records_in l) (2 ^ 64) ≡ c →
      further (counting_of l) m ≡ counting_of (l ++ m)
  by_tests true true h i =
      let hs : Hold (count_tests none none l) = (eq-eqb (length l % 8) 0 whole, (h, (i, tt))) in
      rw (fed_counted none none l hs) (sym (joined none none l m none_length none_length bytes hs))
  by_tests true false h i = rw (← full none none l whole h i) (still_full h i)
  by_tests false c h i = rw (← malformed none none l whole h) (still_malformed h)

  -- "From any number of access lists fed one after another .. The counts equal those of the joined list"
  pub further_joined : further (counting_of l) m ≡ counting_of (l ++ m)
  further_joined = by_tests _ _ refl refl

-- what is exact of any counts is joined of those of a list
pub both : (k r : Counting) (m : List ℕ) → r ≡ further k m →
    (r ≡ further k m) × ((l : List ℕ) → Bytes l → length l % 8 ≡ 0 → k ≡ counting_of l → r ≡ counting_of (l ++ m))
both k r m e = (e, λ l bytes whole h. e ∙ ap (λ (x : Counting). further x m) h ∙ further_joined l m bytes whole)
