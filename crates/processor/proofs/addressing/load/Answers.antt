use Rattle.std.proofs.Common.{refl, ⊎_elim, arith}
use Rattle.rules.specs.Addressing.{load}
use Rattle.rules.specs.Cycles.{execution}
use Rattle.laws.proofs.Goes.{ended}
use Rattle.state.proofs.Registers.{holds}
use Rattle.processor.proofs.Fetches.{reaches, two, stands_past}
use Rattle.processor.specs.Rest.{load_through}
use Rattle.processor.proofs.Through.{Through, in_execution, in_indirect, reaches_through}
use Rattle.processor.proofs.addressing.load.Goals as goal

pub returns-in-Immediate : goal.returns-in-Immediate
unfolding load
returns-in-Immediate c = (
  omega arith,
  λ s h.
      let e = c.past.ensures s h.stands.bytes h.here in
      rw c.in-Immediate.is (reaches 2 (two e) ended),
)

pub returns-in-Zero : goal.returns-in-Zero
unfolding load
returns-in-Zero c = (
  c.from_zero.ensures.0,
  λ s h.
      let found = c.from_zero.ensures.1 s h.stands h.here in
      rw c.in-Zero.is found,
)

pub returns-in-ZeroX : goal.returns-in-ZeroX
unfolding load
returns-in-ZeroX c = (
  c.from_zero_indexed.ensures.0,
  λ s h.
      let found = c.from_zero_indexed.ensures.1 s h.stands h.here in
      rw c.in-ZeroX.is (rw (holds s h.stands.bytes).x at found),
)

pub returns-in-ZeroY : goal.returns-in-ZeroY
unfolding load
returns-in-ZeroY c = (
  c.from_zero_indexed-in-ZeroY.ensures.0,
  λ s h.
      let found = c.from_zero_indexed-in-ZeroY.ensures.1 s h.stands h.here in
      rw c.in-ZeroY.is (rw (holds s h.stands.bytes).y at found),
)

pub returns-in-Absolute : goal.returns-in-Absolute
unfolding load
returns-in-Absolute c = (
  c.from_absolute.ensures.0,
  λ s h.
      let found = c.from_absolute.ensures.1 s (rw c.in-Absolute.is at h) in
      rw c.in-Absolute.is found,
)

pub returns-in-AbsoluteX : goal.returns-in-AbsoluteX
unfolding load
returns-in-AbsoluteX c = (
  omega (arith, c.load_indexed.ensures.0),
  λ s h.
      let is = c.in-AbsoluteX.is in
      let o = c.absolute-a.ensures.1 s _ (rw is at h) in
      let t = stands_past 3 h.stands o.bytes in
      let found = c.load_indexed.ensures.1 _ execution t in
      rw is (reaches 3 o (rw (c.absolute-a.ensures.0, (holds _ o.bytes).x) at found)),
)

pub returns-in-AbsoluteY : goal.returns-in-AbsoluteY
unfolding load
returns-in-AbsoluteY c = (
  omega (arith, c.load_indexed-in-AbsoluteY.ensures.0),
  λ s h.
      let is = c.in-AbsoluteY.is in
      let o = c.absolute-a-in-AbsoluteY.ensures.1 s _ (rw is at h) in
      let t = stands_past 3 h.stands o.bytes in
      let found = c.load_indexed-in-AbsoluteY.ensures.1 _ execution t in
      rw is (reaches 3 o (rw (c.absolute-a-in-AbsoluteY.ensures.0, (holds _ o.bytes).y) at found)),
)

pub returns-in-IndirectX : goal.returns-in-IndirectX
unfolding load
returns-in-IndirectX c = (
  c.from_indirect_x.ensures.0,
  λ s h.
      let found = c.from_indirect_x.ensures.1 s h.stands h.here in
      rw c.in-IndirectX.is found,
)

pub returns-in-IndirectY : goal.returns-in-IndirectY
unfolding load
returns-in-IndirectY c =
    let w = c.in-IndirectY in
    let b = ⊎_elim {C = Through c.args.m w.z} in_execution in_indirect w.is in (
      c.from_indirect_y.ensures.0,
      λ s h.
          let there = rw w.m-is at (c.wiring_of-there.ensures.stands s h.stands) in
          let found = c.from_indirect_y.ensures.1 s _ h.stands h.here there in
          reaches_through load load_through (λ c z. refl) (λ c z. refl) b found,
    )
