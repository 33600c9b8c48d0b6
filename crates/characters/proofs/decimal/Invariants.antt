use Rattle.rules.specs.Text.{decimal}
use Rattle.characters.proofs.Laws.{Spelling}
use Rattle.characters.proofs.decimal.Given as goal

abbrev pub invariant-loop-rest : goal.invariant-loop-rest
invariant-loop-rest l = Spelling (decimal l.n) l.bytes l.from l.rest

abbrev pub decreases-loop-rest : goal.decreases-loop-rest
decreases-loop-rest l = l.rest
