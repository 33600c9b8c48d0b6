use Rattle.rules.specs.Cycles.{execution}
use Rattle.std.proofs.Common.{arith}
use Rattle.processor.proofs.Fetches.{reaches, stands_past}
use Rattle.processor.proofs.addressing.from_absolute.Goals as goal

pub returns : goal.returns
returns c = (
  omega arith,
  λ s h.
      let o = c.absolute-a.ensures.1 s _ h in
      let t = stands_past 3 h.stands o.bytes in
      reaches 3 o (rw c.absolute-a.ensures.0 at (c.read.ensures _ execution t)),
)
