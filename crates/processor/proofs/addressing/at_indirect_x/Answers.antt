use Rattle.rules.specs.Addressing.{place}
use Rattle.state.proofs.Registers.{holds}
use Rattle.processor.proofs.Fetches.{reaches_on, stands_past}
use Rattle.processor.proofs.addressing.at_indirect_x.Goals as goal

pub returns : goal.returns
unfolding place
returns c =
    λ s h p.
    let g = rw (holds s h.bytes).x at (c.zero_indexed-at.ensures s h p) in
    reaches_on 2 _ g (c.pointer.ensures _ (stands_past 2 h g.bytes))
