use Rattle.laws.proofs.Goes.{does, ended, then_write}
use Rattle.rules.specs.Cycles.{execution, ◌>>=◌}
use Rattle.rules.specs.Operations.{push}
use Rattle.state.proofs.Registers.{holds, makes_s}
use Rattle.stacking.proofs.push.Goals as goal

pub returns : goal.returns
unfolding push ◌>>=◌
returns c =
    λ s h.
    let sp = (holds s h.bytes).s in
    does s (rw sp at (makes_s c.down.ensures c.set_s.ensures s h.bytes))
    (then_write _ (rw sp at (c.push.ensures s execution h)) ended)
