use Rattle.std.proofs.Common.{◌∙◌}
use Rattle.state.proofs.Registers.{holds, makes_result}
use Rattle.rules.specs.Operations.{perform}
use Rattle.processor.specs.Rest.{rest}
use Rattle.laws.proofs.Goes.{does, ended}
use Rattle.processor.proofs.Fetches.{opened_does, one}
use Rattle.processor.proofs.accumulated.Goals as goal

pub returns : goal.returns
unfolding perform rest
returns c =
    λ s i l e p.
    let t = c.past.ensures s e p in
    let flags = c.flags_of-f.ensures ∙ (holds _ t).p in
    let made = rw (flags, (holds _ t).a) at (makes_result c.changed.ensures c.to_result.ensures _ t) in
    opened_does 1 (one t) (does _ made ended)
