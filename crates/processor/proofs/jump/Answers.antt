use Rattle.state.proofs.Registers.{makes_pc}
use Rattle.rules.specs.Operations.{perform}
use Rattle.processor.specs.Rest.{rest}
use Rattle.laws.proofs.Goes.{does, ended}
use Rattle.processor.proofs.Fetches.{opened_does}
use Rattle.processor.proofs.jump.Goals as goal

pub returns : goal.returns
unfolding perform rest
returns c =
    λ s i h.
    let o = c.absolute-a.ensures.1 s i h in
    opened_does 3 o (does _ (makes_pc c.absolute-a.ensures.0 c.set_pc.ensures _ o.bytes) ended)
