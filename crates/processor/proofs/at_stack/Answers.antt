use Rattle.rules.specs.Operations.{perform}
use Rattle.processor.specs.Rest.{rest}
use Rattle.processor.proofs.Fetches.{opened_does, one, stands_past}
use Rattle.processor.proofs.at_stack.Goals as goal

pub returns : goal.returns
unfolding perform rest
returns c = (
  c.at_stack.ensures.0,
  λ s h p.
      let e = c.past.ensures s h.bytes p in
      opened_does 1 (one e) (c.at_stack.ensures.1 _ (stands_past 1 h e)),
)
