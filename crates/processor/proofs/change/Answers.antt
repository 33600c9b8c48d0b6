use Rattle.processor.proofs.Back.{looked, recounted}
use Rattle.rules.specs.Cycles.{execution, ◌>>=◌}
use Rattle.laws.proofs.Goes.{read_does}
use Rattle.std.proofs.Common.{arith}
use Rattle.processor.proofs.change.Goals as goal

pub returns : goal.returns
unfolding ◌>>=◌
returns c =
    λ s h.
    let found = c.read-v.ensures _ execution h in
    read_does _ found (recounted (c.rewrite.ensures _ h (looked found)) (omega arith))
