use Rattle.std.proofs.Common.{refl, ⊎_elim, arith}
use Rattle.rules.specs.Addressing.{place}
use Rattle.laws.proofs.Goes.{ended}
use Rattle.state.proofs.Registers.{holds}
use Rattle.processor.proofs.Fetches.{reaches, two}
use Rattle.processor.specs.Rest.{place_through}
use Rattle.processor.proofs.Through.{Through, in_execution, in_indirect, through_most, reaches_through}
use Rattle.processor.proofs.addressing.place.Goals as goal

pub returns-in-Immediate : goal.returns-in-Immediate
unfolding place
returns-in-Immediate c = (
  (omega arith, rw c.in-Immediate.is (omega arith)),
  λ s h.
      let e = c.past.ensures s h.stands.bytes h.here in
      rw c.in-Immediate.is (reaches 2 (two e) ended),
)

pub returns-in-Zero : goal.returns-in-Zero
unfolding place
returns-in-Zero c = (
  (omega arith, rw c.in-Zero.is (omega arith)),
  λ s h.
      let e = c.past-in-Zero.ensures s h.stands.bytes h.here in
      rw c.in-Zero.is (reaches 2 (two e) ended),
)

pub returns-in-ZeroX : goal.returns-in-ZeroX
unfolding place
returns-in-ZeroX c = (
  (omega arith, rw c.in-ZeroX.is (omega arith)),
  λ s h.
      let found = c.zero_indexed.ensures s h.stands h.here in
      rw c.in-ZeroX.is (rw (holds s h.stands.bytes).x at found),
)

pub returns-in-ZeroY : goal.returns-in-ZeroY
unfolding place
returns-in-ZeroY c = (
  (omega arith, rw c.in-ZeroY.is (omega arith)),
  λ s h.
      let found = c.zero_indexed-in-ZeroY.ensures s h.stands h.here in
      rw c.in-ZeroY.is (rw (holds s h.stands.bytes).y at found),
)

pub returns-in-Absolute : goal.returns-in-Absolute
unfolding place
returns-in-Absolute c = (
  (omega arith, rw c.in-Absolute.is (omega arith)),
  λ s h.
      let is = c.in-Absolute.is in
      let o = c.absolute.ensures.1 s _ (rw is at h) in
      rw is (reaches 3 o (rw c.absolute.ensures.0 ended)),
)

pub returns-in-AbsoluteX : goal.returns-in-AbsoluteX
unfolding place
returns-in-AbsoluteX c = (
  (omega arith, rw c.in-AbsoluteX.is (omega arith)),
  λ s h.
      let found = c.at_absolute_indexed.ensures s (rw c.in-AbsoluteX.is at h) in
      rw c.in-AbsoluteX.is (rw (holds s h.stands.bytes).x at found),
)

pub returns-in-AbsoluteY : goal.returns-in-AbsoluteY
unfolding place
returns-in-AbsoluteY c = (
  (omega arith, rw c.in-AbsoluteY.is (omega arith)),
  λ s h.
      let found = c.at_absolute_indexed-in-AbsoluteY.ensures s (rw c.in-AbsoluteY.is at h) in
      rw c.in-AbsoluteY.is (rw (holds s h.stands.bytes).y at found),
)

pub returns-in-IndirectX : goal.returns-in-IndirectX
unfolding place
returns-in-IndirectX c = (
  (omega arith, rw c.in-IndirectX.is (omega arith)),
  λ s h.
      let found = c.at_indirect_x.ensures s h.stands h.here in
      rw c.in-IndirectX.is found,
)

pub returns-in-IndirectY : goal.returns-in-IndirectY
unfolding place
returns-in-IndirectY c =
    let w = c.in-IndirectY in
    let b = ⊎_elim {C = Through c.args.m w.z} in_execution in_indirect w.is in (
      (omega arith, through_most b),
      λ s h.
          let there = rw w.m-is at (c.wiring_of-there.ensures.stands s h.stands) in
          let found = c.at_indirect_y.ensures s _ h.stands h.here there in
          reaches_through place place_through (λ c z. refl) (λ c z. refl) b found,
    )
