use Rattle.laws.proofs.Goes.{ended, then_read, counted}
use Rattle.std.proofs.Common.{arith, refl}
use Rattle.processor.proofs.Crossing.{stays, leaves}
use Rattle.rules.specs.Addressing.{load_indexed}
use Rattle.processor.proofs.addressing.load_indexed.Goals as goal

pub returns-then-sum-near : goal.returns-then-sum-near
unfolding load_indexed
returns-then-sum-near c =
    let near = c.old_page-near.ensures in
    let why = c.first_for.ensures _ _ near refl in (
      omega arith,
      λ s κ h.
          let first = rw (near, why) at (c.read-first.ensures s κ h) in
          then_read _ first (rw (stays _ _ (rw near at c.if-sum-near.true)) ended),
    )

pub returns : goal.returns
unfolding load_indexed
returns c =
    let near = c.old_page-near.ensures in
    let why = c.first_for.ensures _ _ near refl in (
      omega arith,
      λ s κ h.
          let first = rw (near, why) at (c.read-first.ensures s κ h) in
          let second = c.read-second.ensures s κ h in
          then_read _ first (rw (leaves _ _ (rw near at c.if-sum-near.false)) (counted second (omega arith))),
    )
