use Rattle.step.proofs.Closing.{level_of}
use Rattle.rules.specs.Record.{record_of}
use Rattle.std.proofs.Common.{ap, ◌∙◌}
use Rattle.state.proofs.Registers.{holds}
use Rattle.step.proofs.event_in.Goals as goal

pub returns : goal.returns
unfolding record_of
returns c = λ s e.
    let i = ap (λ f. f.i) (c.flags_of-f.ensures ∙ (holds s e).p) in
    rw (e, level_of s.nmi) at (c.event_of.ensures s i)
