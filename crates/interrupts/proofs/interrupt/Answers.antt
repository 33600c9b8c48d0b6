use mathlib.Core.Path.{◌∙◌}
use Rattle.laws.proofs.Goes.{do_does}
use Rattle.rules.specs.Cycles.{◌>>=◌}
use Rattle.rules.specs.Interrupts.{interrupt}
use Rattle.state.proofs.Registers.{holds}
use Rattle.interrupts.proofs.interrupt.Goals as goal

pub returns : goal.returns
unfolding interrupt ◌>>=◌
returns c =
    λ s h.
    let pc = c.pc_of-pc.ensures ∙ (holds s h.bytes).pc in
    let sp = (holds s h.bytes).s in
    let p = rw (c.flags_of.ensures ∙ (holds s h.bytes).p) at c.byte_of-p.ensures in
    do_does _ (rw pc at (c.two_reads.ensures s h))
    (do_does _ (rw (pc, sp, p) at (c.push_three.ensures s h)) (c.enter.ensures s h))
