use mathlib.Core.Path.{◌≡◌}
use Rattle.rules.specs.Basics.{all}
use Rattle.rules.specs.Pages.{is_record}
use Rattle.pages.specs.Ends.{end_fits}
use Rattle.pages.proofs.are_records.Given as goal

abbrev pub invariant-loop-access : goal.invariant-loop-access
invariant-loop-access l = all l.access-index (is_record l.list) ≡ end_fits l.ends
