use Rattle.rules.specs.Cycles.{execution}
use Rattle.std.proofs.Common.{arith}
use Rattle.processor.proofs.Fetches.{reaches, two, stands_past}
use Rattle.processor.proofs.addressing.from_zero.Goals as goal

pub returns : goal.returns
returns c = (
  omega arith,
  λ s h p.
      let e = c.past.ensures s h.bytes p in
      reaches 2 (two e) (c.read.ensures _ execution (stands_past 2 h e)),
)
