-- Whether a page was crossed, told from the two addresses alone.
use Rattle.std.proofs.Common.{◌≡◌, ℕ, ◌/◌, true, false, arith, eq-eqb, ne_eqb}
use Rattle.rules.specs.Basics.{sum16}
use Rattle.rules.specs.Addressing.{old_page, crosses}

pub stays : (a i : ℕ) → sum16 a i ≡ old_page a i → crosses a i ≡ false
stays a i h = let e : sum16 a i / 256 ≡ a / 256 = omega (arith, h) in rw (eq-eqb (sum16 a i / 256) (a / 256) e)

pub leaves : (a i : ℕ) → (sum16 a i ≡ old_page a i → ⊥) → crosses a i ≡ true
leaves a i h =
    let d : sum16 a i / 256 ≡ a / 256 → ⊥ = λ e. h (omega (arith, e)) in rw (ne_eqb (sum16 a i / 256) (a / 256) d)
