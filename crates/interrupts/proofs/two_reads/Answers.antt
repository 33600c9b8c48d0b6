use Rattle.laws.proofs.Goes.{ended, then_read}
use Rattle.rules.specs.Cycles.{execution, ◌>>=◌}
use Rattle.interrupts.proofs.two_reads.Goals as goal

pub returns : goal.returns
unfolding ◌>>=◌
returns c =
    λ t h. then_read _ (c.read.ensures t execution h) (then_read _ (c.read-2.ensures t execution h) ended)
