use Rattle.step.proofs.Closing.{sound_reset, add_count}
use Rattle.rules.specs.Bus.{reset_bus}
use Rattle.step.proofs.reset.Goals as goal

pub returns : goal.returns
unfolding reset_bus
returns c = λ s b.
    let r = c.reset_registers.ensures s b.bytes in
    let t = c.wire-w.ensures.stands _ r (sound_reset s.bus b.sound) b.banked b.pins b.banks in
    add_count (c.reset.ensures _ t) c.add_cycles.ensures
