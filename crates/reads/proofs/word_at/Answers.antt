use Rattle.laws.proofs.Goes.{ended, then_read, counted}
use Rattle.rules.specs.Cycles.{execution, ◌>>=◌}
use native.Mathlib.Omega.{arith}
use Rattle.reads.proofs.word_at.Goals as goal

pub returns : goal.returns
unfolding ◌>>=◌
returns c = λ t h.
    rw c.join.ensures
    (counted (then_read _ (c.read-low.ensures t execution h) (then_read _ (c.read-high.ensures t execution h) ended))
    (omega arith))
