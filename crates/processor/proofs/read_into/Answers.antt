use Rattle.processor.proofs.Fetches.{reached}
use Rattle.laws.specs.Sizes.{mode_size}
use Rattle.processor.specs.Rest.{rest}
use Rattle.rules.specs.Operations.{perform}
use Rattle.laws.proofs.Goes.{does, ended}
use Rattle.std.proofs.Common.{arith}
use Rattle.processor.proofs.read_into.Goals as goal

pub returns : goal.returns
unfolding perform rest
returns c = (
  omega (arith, c.load-got.ensures.0),
  λ s h.
      let g = c.load-got.ensures.1 s h in
      reached (mode_size c.args.m) _ g (does _ (c.used.ensures _ g.bytes) ended),
)
