-- What follows of every word and all counts that fit the contract of `wankitare_pages`, taken as it stands in the crate.
use Prim.Native.Nat.{ℕ, ◌+◌}
use mathlib.Core.Path.{◌≡◌, refl, sym, ap, ◌∙◌}
use mathlib.Core.List.{List, ◌++◌}
use contract.Lifetimes.{Lfts}
use borrow.Fn.Kinds.{Dens, ended_of}
use denote.Triple.Clauses.{AtExit}
use lib.ListN.{length}
use Rattle.std.specs.Prelude.{Result, Ok, Err}
use Rattle.rules.specs.declared.Refusal.{Refusal}
use Rattle.rules.specs.declared.Counting.{Counting}
use Rattle.rules.specs.Answers.{count_word}
use Rattle.rules.specs.Pages.{sum, records_in, counting, count_tests, fed, PageWords, page_words}
use Rattle.laws.proofs.Tests.{tested_case}
use Rattle.laws.proofs.Counts.{Bytes, fed_joined, fed_total}
use Rattle.words.proofs.Laws.{nonzero}
use Rattle.desk.proofs.wankitare_pages.Kinds as kinds
use Rattle.desk.proofs.wankitare_pages.Reads as reads

-- the word 0 says that the list was counted
counted : (b : Result (Unit {0}) Refusal) → count_word b ≡ 0 → b ≡ Ok tt
counted (Ok u) h = refl
counted (Err e) h = absurd (nonzero e h)

-- what a list that is not counted leaves
stays : (r w l : List ℕ) → ((fed r w l).answer ≡ Ok tt → ⊥) → ((fed r w l).reads ≡ r) × ((fed r w l).writes ≡ w)
unfolding fed
stays r w l =
    tested_case (λ (k : Counting). (k.answer ≡ Ok tt → ⊥) → (k.reads ≡ r) × (k.writes ≡ w)) (count_tests r w l)
    (λ e. counting (Err e) r w) _ (λ e h. (refl, refl)) (λ hs h. absurd (h refl))

module _ (κs : Lfts 3) (a : Dens κs kinds.ps) (x : ℕ) (t : AtExit (ended_of 3 kinds.ps kinds.r) κs) where
  -- the counts as they were lent and as they were left, and the list
  abbrev r : List ℕ
  r = a.0.now

  abbrev w : List ℕ
  w = a.1.0.now

  abbrev l : List ℕ
  l = a.1.1.0.now

  abbrev r' : List ℕ
  r' = t.0.now

  abbrev w' : List ℕ
  w' = t.1.0.now

  -- "and the counts stay"
  pub refused_stays : reads.Post κs a x t → (x ≡ 0 → ⊥) → (r' ≡ r) × (w' ≡ w)
  refused_stays p h =
      let s = stays r w l (λ e. h (ap (λ (o : PageWords). o.word) p ∙ ap count_word e)) in
      (ap (λ (o : PageWords). o.reads) p ∙ s.0, ap (λ (o : PageWords). o.writes) p ∙ s.1)

  -- "their sum is the number of records"
  pub counted_sum : reads.Post κs a x t → x ≡ 0 → length r ≡ 256 → length w ≡ 256 → Bytes l →
      sum r' + sum w' ≡ sum r + sum w + records_in l
  counted_sum p h pages pages' bytes =
      let e = counted (fed r w l).answer (sym (ap (λ (o : PageWords). o.word) p) ∙ h) in
      rw (ap (λ (o : PageWords). o.reads) p, ap (λ (o : PageWords). o.writes) p) (fed_total r w l pages pages' bytes e)

-- "The counts equal those of the joined list": two calls that answer 0, one after the other, tell and leave what one call on both lists
-- does.
pub fed_twice : (r w l m : List ℕ) (o : PageWords) → length r ≡ 256 → length w ≡ 256 → Bytes l → (page_words (fed r w l)).word ≡ 0 →
    o ≡ page_words (fed (fed r w l).reads (fed r w l).writes m) → o.word ≡ 0 → o ≡ page_words (fed r w (l ++ m))
fed_twice r w l m o pages pages' bytes h e z =
    let first = counted (fed r w l).answer h in
    let second = counted (fed (fed r w l).reads (fed r w l).writes m).answer (sym (ap (λ (p : PageWords). p.word) e) ∙ z) in
    e ∙ ap page_words (sym (fed_joined r w l m pages pages' bytes first second))
