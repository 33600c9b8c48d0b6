use Rattle.rules.specs.Operations.{jsr}
use Rattle.rules.specs.Cycles.{execution, ◌>>=◌}
use Rattle.laws.proofs.Goes.{does, ended, then_read, then_do}
use Rattle.state.proofs.Registers.{holds, makes_pc, makes_s}
use Rattle.jumps.proofs.jsr.Goals as goal

pub returns : goal.returns
unfolding jsr ◌>>=◌
returns c =
    λ s h.
    let sp = (holds s h.bytes).s in
    let lowered = makes_s c.down.ensures c.set_s.ensures s h.bytes in
    does s (rw sp at (makes_pc c.join.ensures c.set_pc.ensures _ lowered))
    (then_read _ (rw (c.stack.ensures, sp) at (c.read.ensures s execution h))
    (then_do _ (rw sp at (c.push_pc.ensures s h))
    (then_read _ (c.read-high.ensures s execution h) ended)))
