use Rattle.step.proofs.Finish.{stepped, not_stepped}
use Rattle.step.proofs.Closing.{level_back}
use Rattle.rules.specs.Record.{record_of}
use Rattle.std.proofs.Common.{◌/◌}
use Rattle.step.proofs.answer.Goals as goal

pub returns-then-count-eq0 : goal.returns-then-count-eq0
returns-then-count-eq0 c = λ e s i l l' b room t.
    not_stepped e _ _ s t c.if-count-eq0.true _
    (λ p q. rw q at (c.undefined.ensures s (rw (p, q) b)))

pub returns : goal.returns
unfolding record_of
returns c = λ e s i l l' b room t.
    let n = c.args.count in
    let level = level_back (c.args.lines / 2) in
    rw c.packed.ensures (stepped e _ n s t c.if-count-eq0.false c.requires.0 room _ (λ u d. rw (d, level)))
