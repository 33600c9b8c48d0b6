-- The registers in sixteen bytes that stand for a state: what the functions read there, and what they make.
use Prim.Native.Nat.{ℕ, ◌/◌, ◌%◌}
use native.Mathlib.Omega.{arith}
use mathlib.Core.Path.{◌≡◌, ap, ◌∙◌}
use mathlib.Core.List.{List}
use lib.ListN.{set}
use Rattle.rules.specs.declared.Flags.{Flags}
use Rattle.rules.specs.declared.Flagged.{Flagged}
use Rattle.rules.specs.declared.State.{State}
use Rattle.rules.specs.Basics.{at, address}
use Rattle.rules.specs.Flags.{flags_of, byte_of, nz}
use Rattle.rules.specs.Operations.{with_p, with_s, with_pc, with_result}
use Rattle.rules.specs.Record.{record_of}
use Rattle.laws.specs.States.{moved}
use Rattle.laws.proofs.Records.{flags_again}
use Rattle.state.specs.Makes.{Makes}

pub record Holds (t : State) (r : List ℕ) : Type 0 where
  pub a : at r 1 ≡ t.cpu.a
  pub x : at r 2 ≡ t.cpu.x
  pub y : at r 3 ≡ t.cpu.y
  pub s : at r 4 ≡ t.cpu.s
  pub p : flags_of (at r 5) ≡ t.cpu.p
  pub pc : address (at r 6) (at r 7) ≡ t.cpu.pc

pub holds : (t : State) {r : List ℕ} → r ≡ record_of t → Holds t r
unfolding record_of
holds t e = record { a = rw e; x = rw e; y = rw e; s = rw e; p = rw e (flags_again t.cpu.p); pc = rw e (omega arith) }

-- What was set is given by an equation: of a function's result, what it ensures.

pub makes_pc : {pc v : ℕ} {r r' : List ℕ} → pc ≡ v → r' ≡ set (set r 6 (pc % 256)) 7 (pc / 256) → Makes (with_pc v) r r'
unfolding record_of
makes_pc i q t e = rw (q, i, e)

pub makes_s : {s v : ℕ} {r r' : List ℕ} → s ≡ v → r' ≡ set r 4 s → Makes (with_s v) r r'
unfolding record_of
makes_s i q t e = rw (q, i, e)

pub makes_p : {f g : Flags} {r r' : List ℕ} → f ≡ g → r' ≡ set r 5 (byte_of f) → Makes (with_p g) r r'
unfolding record_of
makes_p i q t e = rw (q, i, e)

pub makes_result : {m n : Flagged} {r r' : List ℕ} → m ≡ n → r' ≡ set (set r 5 (byte_of m.flags)) 1 m.value →
    Makes (with_result n) r r'
unfolding record_of
makes_result i q t e = rw (q, i, e)

-- of a register, with N and Z
pub makes_to : (k : ℕ) {v w : ℕ} {r r' : List ℕ} → v ≡ w → r' ≡ set (set r 5 (byte_of (nz v (flags_of (at r 5))))) k v →
    (t : State) → r ≡ record_of t → r' ≡ set (record_of (moved (with_p (nz w t.cpu.p) t.cpu) t.bus t)) k w
unfolding record_of
makes_to k {w = w} {r = r} i q t e =
    rw i at q ∙ (ap (λ (f : Flags). set (set r 5 (byte_of (nz w f))) k w) (holds t e).p ∙ rw e)
