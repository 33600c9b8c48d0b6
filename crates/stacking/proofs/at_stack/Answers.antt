use Rattle.std.proofs.Common.{◌∙◌, arith}
use Rattle.state.proofs.Registers.{holds}
use Rattle.stacking.proofs.at_stack.Goals as goal

pub returns-in-Php : goal.returns-in-Php
returns-in-Php c =
    let told = c.in-Php.is in
    let bit-4 = c.with_bit_4-p.ensures in
    (omega arith, λ s h. rw told (rw (bit-4, c.flags_of.ensures ∙ (holds s h.bytes).p) at (c.push.ensures s h)))

pub returns-in-Plp : goal.returns-in-Plp
returns-in-Plp c =
    (omega arith, λ s h. rw c.in-Plp.is (c.plp.ensures s h))

pub returns-in-Pha : goal.returns-in-Pha
returns-in-Pha c =
    (omega arith, λ s h. rw c.in-Pha.is (rw (holds s h.bytes).a at (c.push-in-Pha.ensures s h)))

pub returns-in-Pla : goal.returns-in-Pla
returns-in-Pla c =
    (omega arith, λ s h. rw c.in-Pla.is (c.pla.ensures s h))

pub returns-in-Rts : goal.returns-in-Rts
returns-in-Rts c =
    (omega arith, λ s h. rw c.in-Rts.is (c.rts.ensures s h))

pub returns-in-Rti : goal.returns-in-Rti
returns-in-Rti c =
    (omega arith, λ s h. rw c.in-Rti.is (c.rti.ensures s h))
