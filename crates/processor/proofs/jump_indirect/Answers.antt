use Rattle.rules.specs.Operations.{perform}
use Rattle.processor.specs.Rest.{rest}
use Rattle.processor.proofs.Fetches.{opened_does, stands_past}
use Rattle.processor.proofs.jump_indirect.Goals as goal

pub returns : goal.returns
unfolding perform rest
returns c =
    λ s h.
    let o = c.absolute-a.ensures.1 s _ h in
    let t = stands_past 3 h.stands o.bytes in
    opened_does 3 o (rw c.absolute-a.ensures.0 at (c.jump_indirect.ensures _ t))
