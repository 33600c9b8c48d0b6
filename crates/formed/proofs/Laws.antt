-- Sums that are 0 where each part of them is, and the tests of a record in another order.
use Prim.Native.Nat.{ℕ, ◌+◌, ◌/◌}
use native.Mathlib.Omega.{arith}
use mathlib.Core.Path.{◌≡◌, refl, sym}
use mathlib.Core.Bool.{Bool, true, false, ◌&&◌, false≢true}
use mathlib.Core.List.{List}
use borrow.Author.Tests.{eqb-true, leb-true, le-leb, eq-eqb}
use lib.Dec.{leb, eqb}
use Rattle.rules.specs.Basics.{at}
use Rattle.rules.specs.Record.{part_fits, flags_fit, well_formed}
use Rattle.laws.proofs.Tests.{and_true}
use Rattle.formed.specs.Rest.{rest_fits}

-- tests that pass together are the same
both : (a b : Bool) → (a ≡ true → b ≡ true) → (b ≡ true → a ≡ true) → a ≡ b
both true b f g = sym (f refl)
both false true f g = g refl
both false false f g = refl

four : (a b c d : Bool) → (a && b && c && d) ≡ true → (a ≡ true) × (b ≡ true) × (c ≡ true) × (d ≡ true)
four true true true d h = (refl, refl, refl, h)
four true true false d h = absurd (false≢true h)
four true false c d h = absurd (false≢true h)
four false b c d h = absurd (false≢true h)

-- "Bytes 8, 9 are 0 on the 6502"; "last NMI level (0 or 1)"
pub none_6502 : (f s l p : ℕ) → eqb (f + s + l / 2) 0 ≡ rest_fits 2 f s l p
none_6502 f s l p =
    both _ _
    (λ h. let e = eqb-true (f + s + l / 2) 0 h in rw (eq-eqb f 0 (omega arith), eq-eqb s 0 (omega arith), le-leb l 1 (omega arith)))
    (λ h.
    let t = four (eqb f 0) (eqb s 0) (leb l 1) true h in
    let a = eqb-true f 0 t.0 in
    let b = eqb-true s 0 t.1 in
    let d = leb-true l 1 t.2 in
    eq-eqb (f + s + l / 2) 0 (omega arith))

-- "at most 15 on the 6509"; "byte 11 is 0 on the 6509"
pub none_6509 : (f s l p : ℕ) → eqb (f / 16 + s / 16 + l / 2 + p) 0 ≡ rest_fits 9 f s l p
none_6509 f s l p =
    both _ _
    (λ h.
    let e = eqb-true (f / 16 + s / 16 + l / 2 + p) 0 h in
    rw (le-leb f 15 (omega arith), le-leb s 15 (omega arith), le-leb l 1 (omega arith)) (eq-eqb p 0 (omega arith)))
    (λ h.
    let t = four (leb f 15) (leb s 15) (leb l 1) (eqb p 0) h in
    let a = leb-true f 15 t.0 in
    let b = leb-true s 15 t.1 in
    let d = leb-true l 1 t.2 in
    let e = eqb-true p 0 t.3 in
    eq-eqb (f / 16 + s / 16 + l / 2 + p) 0 (omega arith))

and_false : (b : Bool) → (b && false) ≡ false
and_false true = refl
and_false false = refl

-- a record whose P fits, and one whose P does not
pub flags_fit_lem : (r : List ℕ) → flags_fit (at r 5) ≡ true → rest_fits (at r 0) (at r 8) (at r 9) (at r 10) (at r 11) ≡ well_formed r
unfolding well_formed
flags_fit_lem r h = rw (h, and_true (part_fits (at r 0)))

pub flags_unfit : (r : List ℕ) → flags_fit (at r 5) ≡ false → false ≡ well_formed r
unfolding well_formed
flags_unfit r h = rw (h, and_false (part_fits (at r 0)))
