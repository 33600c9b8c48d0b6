use Rattle.laws.proofs.Goes.{then_do}
use Rattle.rules.specs.Cycles.{execution, ◌>>=◌}
use Rattle.sequence.proofs.push_three.Goals as goal

pub returns : goal.returns
unfolding ◌>>=◌
returns c =
    λ t h. then_do _ (c.push_pc.ensures t h) (rw c.down.ensures at (c.push.ensures t execution h))
