use lib.ListN.{length}
use Rattle.rules.specs.Text.{each}
use Rattle.rules.specs.Pages.{traffic_line}
use Rattle.characters.specs.Shown.{Puts}
use Rattle.report.proofs.put_pages.Given as goal

abbrev pub invariant-loop-page : goal.invariant-loop-page
invariant-loop-page l = Puts (each (length l.yielded) (traffic_line l.reads l.writes)) 0 l.at l.initial.text l.text
