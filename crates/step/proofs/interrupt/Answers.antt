use Rattle.step.proofs.Closing.{add_count}
use Rattle.step.proofs.interrupt.Goals as goal

pub returns : goal.returns
returns c = λ s b.
    let t = c.wire-w.ensures.stands s b.bytes b.sound b.banked b.pins b.banks in
    add_count (c.interrupt.ensures s t) c.add_cycles.ensures
