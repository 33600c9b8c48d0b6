use Prim.Native.Nat.{ℕ, ◌<◌, ◌≤◌}
use native.Mathlib.Omega.{arith}
use mathlib.Core.Path.{◌≡◌}
use borrow.Author.Tests.{eq-eqb, ne_eqb}
use Rattle.rules.specs.Record.{record_of}
use Rattle.reads.proofs.low_held.Goals as goal

-- the one address that is left below 2
second : (a : ℕ) → a ≤ 1 → (a ≡ 0 → ⊥) → a ≡ 1
second a h k = omega arith

-- an address above them
above : (a k : ℕ) → 1 < a → k ≤ 1 → a ≡ k → ⊥
above a k h l e = omega arith

pub returns-then-a-eq0 : goal.returns-then-a-eq0
unfolding record_of
returns-then-a-eq0 c = λ s e d. rw (eq-eqb _ 0 c.if-a-eq0.true, e)

pub returns-then-state-eq8 : goal.returns-then-state-eq8
unfolding record_of
returns-then-state-eq8 c = λ s e d.
    let part : s.bus.part ≡ 8 = rw e at c.if-state-eq8.true in
    let left = c.if-a-eq0.false in
    rw (ne_eqb _ 0 left, eq-eqb _ 1 (second _ c.if-a-gt1.false left), eq-eqb _ 8 part, c.port.ensures, d, e)

pub returns : goal.returns
unfolding record_of
returns c = λ s e d.
    let part : s.bus.part ≡ 8 → ⊥ = rw e at c.if-state-eq8.false in
    let left = c.if-a-eq0.false in
    rw (ne_eqb _ 0 left, eq-eqb _ 1 (second _ c.if-a-gt1.false left), ne_eqb _ 8 part, e)
