-- What is answered of a list, test by test.
use Prim.Native.Nat.{ℕ, ◌+◌, ◌%◌, ◌^◌}
use mathlib.Core.Path.{◌≡◌}
use mathlib.Core.Bool.{true, false}
use mathlib.Core.List.{List}
use borrow.Author.Tests.{eq-eqb}
use lib.Dec.{ltb}
use lib.ListN.{length}
use Rattle.std.specs.Prelude.{Result, Ok, Err}
use Rattle.rules.specs.declared.Refusal.{Refusal}
use Rattle.rules.specs.declared.Refusal.TheVariants.{ListRecord, Total}
use Rattle.rules.specs.declared.Counting.{Counting}
use Rattle.rules.specs.Basics.{when◌then◌else◌, all}
use Rattle.rules.specs.Answers.{tested}
use Rattle.rules.specs.Pages.{is_record, records_in, counted, sum, form_tests, counting, fed}
use Rattle.laws.proofs.Tests.{tested_refused, tested_passed}

module _ (r w l : List ℕ) where
  abbrev stays : Refusal → Counting
  stays e = counting (Err e) r w

  -- what is left to judge of a list that is well made
  abbrev left : Counting
  left =
      when ltb (sum r + sum w + records_in l) (2 ^ 64) then counting (Ok tt) (counted 0 r l (records_in l)) (counted 1 w l (records_in l))
      else stays Total

  module _ (judged : Result (Unit {0}) Refusal) (h : judged ≡ tested (form_tests l) Err (Ok tt)) where
    pub stopped : (e : Refusal) → judged ≡ Err e → fed r w l ≡ stays e
    unfolding fed
    stopped e = tested_refused (form_tests l) stays left judged e h

    pub goes_on : judged ≡ Ok tt → fed r w l ≡ left
    unfolding fed
    goes_on = tested_passed (form_tests l) stays left judged h

  module _ (whole : length l % 8 ≡ 0) where
    pub malformed : all (records_in l) (is_record l) ≡ false → counting (Err ListRecord) r w ≡ fed r w l
    unfolding fed
    malformed h = rw (eq-eqb (length l % 8) 0 whole, h)

    pub full : all (records_in l) (is_record l) ≡ true → ltb (sum r + sum w + records_in l) (2 ^ 64) ≡ false →
        counting (Err Total) r w ≡ fed r w l
    unfolding fed
    full good h = rw (eq-eqb (length l % 8) 0 whole, good, h)
