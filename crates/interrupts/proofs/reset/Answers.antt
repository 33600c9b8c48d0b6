use mathlib.Core.Path.{◌∙◌}
use Rattle.laws.proofs.Goes.{do_does}
use Rattle.rules.specs.Cycles.{◌>>=◌}
use Rattle.rules.specs.Interrupts.{reset}
use Rattle.state.proofs.Registers.{holds}
use Rattle.interrupts.proofs.reset.Goals as goal

pub returns : goal.returns
unfolding reset ◌>>=◌
returns c =
    λ s h.
    let pc = c.pc_of-pc.ensures ∙ (holds s h.bytes).pc in
    let sp = (holds s h.bytes).s in
    do_does _ (rw pc at (c.two_reads.ensures s h))
    (do_does _ (rw sp at (c.three_reads.ensures s h)) (c.enter.ensures s h))
