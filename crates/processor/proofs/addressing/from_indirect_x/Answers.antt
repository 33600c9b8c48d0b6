use Rattle.state.proofs.Registers.{holds}
use Rattle.laws.proofs.Goes.{then_call}
use Rattle.rules.specs.Cycles.{execution}
use Rattle.rules.specs.Addressing.{load}
use Rattle.std.proofs.Common.{arith}
use Rattle.processor.proofs.Fetches.{reaches_on, stands_past}
use Rattle.processor.proofs.addressing.from_indirect_x.Goals as goal

pub returns : goal.returns
unfolding load
returns c = (
  omega arith,
  λ s h p.
      let g = rw (holds s h.bytes).x at (c.zero_indexed-at.ensures s h p) in
      let t = stands_past 2 h g.bytes in
      reaches_on 2 _ g (then_call _ (c.pointer-a.ensures _ t) (c.read.ensures _ execution t)),
)
