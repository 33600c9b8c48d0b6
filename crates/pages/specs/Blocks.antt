-- A list that is fed from all zero, block by block.
use Rattle.std.specs.Prelude.{List, ℕ, Result, Ok, Err}
use Rattle.rules.specs.declared.Refusal.{Refusal}
use Rattle.rules.specs.declared.Counting.{Counting}
use Rattle.rules.specs.Answers.{tested}
use Rattle.rules.specs.Pages.{counting, counted, records_in, form_tests, count_tests, none}

-- a list refused: the counts stay, all zero
abbrev pub refused_by : Refusal → Counting
refused_by e = counting (Err e) none none

-- The block m after blocks that are counted or refused already. Of a list that is refused an earlier test may fail yet.
abbrev pub onward : Result (Unit {0}) Refusal → List ℕ → List ℕ → List ℕ → Counting
onward (Ok u) reads writes m =
    tested (count_tests reads writes m) refused_by (counting (Ok tt) (counted 0 reads m (records_in m)) (counted 1 writes m (records_in m)))
onward (Err e) reads writes m = tested (form_tests m) refused_by (refused_by e)

abbrev pub further : Counting → List ℕ → Counting
further k m = onward k.answer k.reads k.writes m
