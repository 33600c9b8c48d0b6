use Rattle.std.proofs.Common.{◌∙◌}
use Rattle.rules.specs.Cycles.{execution}
use Rattle.state.proofs.Registers.{holds}
use Rattle.step.proofs.undefined.Goals as goal

pub returns : goal.returns
returns c = λ s b.
    let t = c.wire-w.ensures.stands s b.bytes b.sound b.banked b.pins b.banks in
    let pc = c.pc_of-pc.ensures ∙ (holds s b.bytes).pc in
    rw (pc, rw pc at (c.look-opcode.ensures s execution t)) at c.refusal_word.ensures
