use Rattle.rules.specs.Cycles.{execution}
use Rattle.std.proofs.Common.{arith}
use Rattle.processor.proofs.Fetches.{reaches_on, stands_past}
use Rattle.processor.proofs.addressing.from_zero_indexed.Goals as goal

pub returns : goal.returns
returns c = (
  omega arith,
  λ s h p.
      let g = c.zero_indexed-at.ensures s h p in
      reaches_on 2 _ g (c.read.ensures _ execution (stands_past 2 h g.bytes)),
)
