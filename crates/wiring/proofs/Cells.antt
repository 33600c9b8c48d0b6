-- What an address reaches, by the part.
use Prim.Native.Nat.{ℕ, zero, suc, ◌+◌, ◌-◌, ◌/◌, ◌%◌, ◌≤◌, ◌<◌}
use native.Mathlib.Omega.{arith}
use native.Mathlib.Decide.{dec_le}
use mathlib.Core.Path.{◌≡◌, refl}
use mathlib.Core.Bool.{Bool, true, false}
use borrow.Author.Tests.{ltb-true, eqb-true, eqb-false, ne_eqb, lt-ltb, le-ltb}
use lib.Dec.{ltb, eqb}
use Rattle.rules.specs.declared.Bus.{Bus}
use Rattle.rules.specs.Basics.{when◌then◌else◌}
use Rattle.rules.specs.Cycles.{Bank}
use Rattle.rules.specs.Bus.{Cell, first, second, of_image, image_at, cell_of}
use Rattle.wiring.specs.Wiring.{plain_of, base_of, Part, the6502, the6508, the6509}
use Rattle.wiring.specs.Cells.{reached}

pub two : (p : ℕ) → 2 ≤ p → (eqb p 0 ≡ false) × (eqb p 1 ≡ false) × (ltb p 2 ≡ false)
two p l = (ne_eqb p 0 (λ e. absurd (omega arith)), ne_eqb p 1 (λ e. absurd (omega arith)), le-ltb p 2 l)

-- where a part has registers, they are below 2
above : (p n : ℕ) → 1 ≤ n → (p < 2 → n ≡ 0) → (eqb p 0 ≡ false) × (eqb p 1 ≡ false) × (ltb p 2 ≡ false)
above p n some h = two p (go (dec_le 2 p))
  where
    go : Dec (2 ≤ p) → 2 ≤ p
    go (yes y) = y
    go (no g) = let e : n ≡ 0 = h (omega (arith, g)) in absurd (omega arith)

-- "Addresses 0100 to 01FF reach image bytes 0 to 255"
first_pages : (p : ℕ) → (when eqb (p / 256) 1 then p - 256 else p) ≡ reached 512 0 p
first_pages p = go (eqb (p / 256) 1) refl
  where
    low : (b : Bool) → ltb p 512 ≡ b → (p / 256 ≡ 1 → ⊥) → p ≡ (when b then p % 256 else 0 + p)
    low true y d = omega (arith, d, ltb-true p 512 y)
    low false n d = omega arith

    go : (b : Bool) → eqb (p / 256) 1 ≡ b → (when b then p - 256 else p) ≡ reached 512 0 p
    go true y = let d = eqb-true (p / 256) 1 y in rw (lt-ltb p 512 (omega arith)) (omega arith)
    go false n = low (ltb p 512) refl (eqb-false (p / 256) 1 n)

-- what an address reaches where no register is, and where one is
pub cell_byte : (κ : Bank) (u : Bus) (p : ℕ) → Part u.part → (p < 2 → plain_of u.part ≡ 0) →
    cell_of u κ p ≡ of_image (reached (plain_of u.part) (base_of u κ) p)
unfolding cell_of image_at
cell_byte κ u p (the6502 e) h = let z : 0 + p ≡ p = omega arith in rw (e, le-ltb p 0 (omega arith), z)
cell_byte κ u p (the6508 e) h = let t = above p 512 (omega arith) (rw e at h) in rw (e, t.0, t.1, first_pages p)
cell_byte κ u p (the6509 e) h =
    let t = above p 2 (omega arith) (rw e at h) in
    rw (e, t.0, t.1, t.2)

low_cell : (p : ℕ) (c : Cell) → p < 2 →
    (when eqb p 0 then first else when eqb p 1 then second else c) ≡ (when eqb p 0 then first else second)
low_cell zero c h = refl
low_cell (suc zero) c h = refl
low_cell (suc (suc p)) c h = absurd (omega arith)

pub below : {n p : ℕ} → Part n → plain_of n ≤ p → p < 2 → plain_of n ≡ 0
below (the6502 e) h l = rw e
below (the6508 e) h l = let g : 512 ≤ _ = rw e at h in absurd (omega arith)
below (the6509 e) h l = let g : 2 ≤ _ = rw e at h in absurd (omega arith)

pub cell_register : (κ : Bank) (u : Bus) (p : ℕ) → Part u.part → p < 2 → 0 < plain_of u.part →
    cell_of u κ p ≡ (when eqb p 0 then first else second)
unfolding cell_of
cell_register κ u p (the6502 e) h some = let l : 0 < 0 = rw e at some in absurd (omega arith)
cell_register κ u p (the6508 e) h some = rw e (low_cell p _ h)
cell_register κ u p (the6509 e) h some = rw e (low_cell p _ h)
