use mathlib.Core.Path.{sym, ◌∙◌}
use Rattle.reads.proofs.Held.{look_low, look_plain}
use Rattle.reads.proofs.look.Goals as goal

pub returns-then-a-w : goal.returns-then-a-w
returns-then-a-w c = λ s κ h.
    let w = h.wired in
    c.low_held.ensures s h.bytes w.pins ∙
    (sym (look_low κ s.bus _ _ w.sound.part (rw (← w.plain) c.if-a-w.true)))

pub returns : goal.returns
returns c = λ s κ h.
    let w = h.wired in
    rw w.base (sym (look_plain κ s.bus _ _ w.sound.part (rw (← w.plain) c.if-a-w.false)))
