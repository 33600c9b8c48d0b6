-- What a read finds, by the part.
use Prim.Native.Nat.{ℕ, zero, suc, ◌+◌, ◌≤◌, ◌<◌}
use native.Mathlib.Omega.{arith}
use native.Mathlib.Decide.{dec_le}
use mathlib.Core.Path.{◌≡◌, refl}
use mathlib.Core.List.{List}
use borrow.Author.Tests.{lt-ltb, le-ltb}
use lib.Dec.{eqb}
use Rattle.rules.specs.declared.Bus.{Bus}
use Rattle.rules.specs.Basics.{when◌then◌else◌, at}
use Rattle.rules.specs.Cycles.{Bank}
use Rattle.rules.specs.Bus.{world, images, first, second, held, look}
use Rattle.wiring.specs.Wiring.{plain_of, base_of, Part}
use Rattle.wiring.proofs.Cells.{two, cell_byte, below, cell_register}
use Rattle.reads.specs.Held.{low_held}

low_held_lem : (u : Bus) (i : List ℕ) (p : ℕ) → p < 2 → held images (world u i) (when eqb p 0 then first else second) ≡ low_held u i p
low_held_lem u i zero h = refl
low_held_lem u i (suc zero) h = refl
low_held_lem u i (suc (suc p)) h = absurd (omega arith)

pub look_plain : (κ : Bank) (u : Bus) (i : List ℕ) (p : ℕ) → Part u.part → plain_of u.part ≤ p →
    look images (world u i) κ p ≡ at i (base_of u κ + p)
unfolding look
look_plain κ u i p q h = rw (cell_byte κ u p q (λ l. below q h l), le-ltb p (plain_of u.part) h)

pub look_low : (κ : Bank) (u : Bus) (i : List ℕ) (p : ℕ) → Part u.part → p < plain_of u.part →
    look images (world u i) κ p ≡ low_held u i p
unfolding look
look_low κ u i p q h = go (dec_le 2 p)
  where
    go : Dec (2 ≤ p) → look images (world u i) κ p ≡ low_held u i p
    go (yes y) =
        let t = two p y in
        rw (cell_byte κ u p q (λ l. absurd (omega arith)), lt-ltb p (plain_of u.part) h, t.0, t.1)
    go (no g) = rw (cell_register κ u p q (omega (arith, g)) (omega arith)) (low_held_lem u i p (omega (arith, g)))
