use Rattle.state.proofs.Registers.{holds, makes_s}
use Rattle.rules.specs.Operations.{perform}
use Rattle.processor.specs.Rest.{rest}
use Rattle.laws.proofs.Goes.{does, ended}
use Rattle.processor.proofs.Fetches.{opened_does, one}
use Rattle.processor.proofs.txs.Goals as goal

pub returns : goal.returns
unfolding perform rest
returns c =
    λ s i l e p.
    let t = c.past.ensures s e p in
    opened_does 1 (one t) (does _ (makes_s (holds _ t).x c.set_s.ensures _ t) ended)
