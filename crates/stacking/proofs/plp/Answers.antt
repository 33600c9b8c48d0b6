use Rattle.laws.proofs.Goes.{does, ended, then_call}
use Rattle.rules.specs.Cycles.{done, ◌>>=◌}
use Rattle.rules.specs.Basics.{sum8}
use Rattle.rules.specs.Flags.{flags_of}
use Rattle.rules.specs.Operations.{pull, with_p, with_s}
use Rattle.state.proofs.Registers.{holds, makes_s, makes_p}
use Rattle.stacking.proofs.plp.Goals as goal

pub returns : goal.returns
unfolding pull ◌>>=◌
returns c =
    λ s h.
    let sp = (holds s h.bytes).s in
    let raised = makes_s c.up.ensures c.set_s.ensures s h.bytes in
    does s (rw sp at (makes_p c.flags_of.ensures c.set_flags.ensures _ raised))
    (then_call (λ p. done (with_p (flags_of p) (with_s (sum8 s.cpu.s 1) s.cpu))) (rw sp at (c.pulled-p.ensures s h)) ended)
