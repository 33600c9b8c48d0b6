use Rattle.laws.proofs.Goes.{then_read}
use Rattle.rules.specs.Cycles.{execution, ◌>>=◌}
use Rattle.stacking.proofs.pulled.Goals as goal

pub returns : goal.returns
unfolding ◌>>=◌
returns c =
    λ t h.
    then_read _ (rw c.stack.ensures at (c.read.ensures t execution h))
    (rw (c.stack-above.ensures, c.up.ensures) at (c.read-2.ensures t execution h))
