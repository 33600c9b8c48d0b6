use Rattle.std.proofs.Common.{◌∙◌}
use Rattle.rules.specs.Operations.{brk, enter}
use Rattle.rules.specs.Cycles.{◌>>=◌}
use Rattle.laws.proofs.Goes.{do_does}
use Rattle.state.proofs.Registers.{holds}
use Rattle.sequence.proofs.brk.Goals as goal

pub returns : goal.returns
unfolding brk enter ◌>>=◌
returns c =
    λ s h.
    let sp = (holds s h.bytes).s in
    let p = rw (c.flags_of.ensures ∙ (holds s h.bytes).p) at c.with_bit_4-p.ensures in
    let pushed = rw (sp, p) at (c.push_three.ensures s h) in
    do_does _ pushed (c.enter.ensures s h)
