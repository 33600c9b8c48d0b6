use Rattle.std.proofs.Common.{◌∙◌}
use Rattle.state.proofs.Registers.{holds, makes_p}
use Rattle.rules.specs.Operations.{perform}
use Rattle.processor.specs.Rest.{rest}
use Rattle.laws.proofs.Goes.{does, ended}
use Rattle.processor.proofs.Fetches.{opened_does, one}
use Rattle.processor.proofs.cli.Goals as goal

pub returns : goal.returns
unfolding perform rest
returns c =
    λ s i l e p.
    let t = c.past.ensures s e p in
    let flags = c.flags_of-f.ensures ∙ (holds _ t).p in
    let made = rw flags at (makes_p c.with_i.ensures c.set_flags.ensures _ t) in
    opened_does 1 (one t) (does _ made ended)
