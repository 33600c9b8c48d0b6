-- When a list can be added to the counts.
use Rattle.std.specs.Prelude.{ℕ, ◌+◌, ◌<◌, ◌^◌, ◌≡◌, true, List}
use Rattle.rules.specs.Basics.{all}
use Rattle.rules.specs.Pages.{is_record, records_in, sum}

-- what 21 and 22 have let pass
pub record Counts (reads writes l : List ℕ) : Type 0 where
  pub records : all (records_in l) (is_record l) ≡ true
  pub room : sum reads + sum writes + records_in l < 2 ^ 64
