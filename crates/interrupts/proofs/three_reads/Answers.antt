use Rattle.laws.proofs.Goes.{ended, then_read}
use Rattle.rules.specs.Cycles.{execution, ◌>>=◌}
use Rattle.interrupts.proofs.three_reads.Goals as goal

pub returns : goal.returns
unfolding ◌>>=◌
returns c =
    λ t h.
    then_read _ (rw c.stack.ensures at (c.read.ensures t execution h))
    (then_read _ (rw (c.stack-one.ensures, c.down.ensures) at (c.read-2.ensures t execution h))
    (then_read _ (rw (c.stack-two.ensures, c.down-2.ensures) at (c.read-3.ensures t execution h)) ended))
