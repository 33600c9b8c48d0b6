use Rattle.state.proofs.Registers.{holds}
use Rattle.laws.proofs.Goes.{then_call}
use Rattle.processor.proofs.Fetches.{reaches, two, stands_past}
use Rattle.std.proofs.Common.{arith}
use Rattle.processor.proofs.addressing.from_indirect_y.Goals as goal

pub returns : goal.returns
returns c = (
  omega (arith, c.load_indexed.ensures.0),
  λ s κ h p g.
      let e = c.past.ensures s h.bytes p in
      let last = rw (holds _ e).y at (c.load_indexed.ensures.1 _ κ (stands_past 2 g e)) in
      reaches 2 (two e) (then_call _ (c.pointer-a.ensures _ (stands_past 2 h e)) last),
)
