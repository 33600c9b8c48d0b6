-- Each function of operands has one answer: what is left of a text tells its place, within the text.
use Prim.Native.Nat.{ℕ, ◌≤◌}
use native.Mathlib.Omega.{arith}
use mathlib.Core.Path.{◌≡◌, refl, sym, ap, ◌∙◌}
use mathlib.Core.List.{List}
use lib.ListN.{length, drop, length-drop}
use Rattle.std.specs.Prelude.{Option, Some, None}
use Rattle.assembly_rules.specs.Characters.{Run}
use Rattle.operands.specs.declared.Word.{Word}
use Rattle.assembly_rules.specs.Sums.{Read}
use Rattle.operands.specs.declared.Found.{Found}
use Rattle.operands.specs.Places.{Ran, Finds}
use Rattle.operands.proofs as its
use Rattle.unique.proofs.General.{Unique, answer}

place_once : (s : List ℕ) (p q : ℕ) → p ≤ length s → q ≤ length s → drop p s ≡ drop q s → p ≡ q
place_once s p q f g e = omega (arith, length-drop p s, length-drop q s, ap length e, f, g)

ran : {r : Run} {s : List ℕ} {v w : Word} → Ran r s v → Ran r s w → v ≡ w
ran {s = s} {v = v} {w = w} p q j =
    let e = sym p.same ∙ q.same in
    record {
      value = ap (λ (r : Run). r.value) e j;
      left = ap (λ (r : Run). r.left) e j;
      at = place_once s v.at w.at p.within q.within (ap (λ (r : Run). r.rest) e) j;
    }

found_once : (r : Read) (s : List ℕ) (f g : Option Found) → Finds r s f → Finds r s g → f ≡ g
found_once r s (Some f) (Some g) x y =
    let e = sym x.same ∙ y.same in
    let value_same : f.value ≡ g.value = cc in
    let four_same : f.four ≡ g.four = cc in
    let rest-same : drop f.at s ≡ drop g.at s = cc in
    let at-same = place_once s f.at g.at x.within y.within rest-same in
    λ j. Some (record { value = value_same j; four = four_same j; at = at-same j })
found_once r s (Some f) None x y = let e = sym x.same ∙ y.same in let z : ◌≡◌ {A = ℕ} 0 1 = cc in absurd (omega (arith, z))
found_once r s None (Some g) x y = let e = sym x.same ∙ y.same in let z : ◌≡◌ {A = ℕ} 0 1 = cc in absurd (omega (arith, z))
found_once r s None None x y = refl

pub name : Unique its.name.Kinds.ps its.name.Kinds.r its.name.Reads.Post
name κs a x y p q = answer refl (ran p q) refl

pub operand : Unique its.operand.Kinds.ps its.operand.Kinds.r its.operand.Reads.Post
operand κs a x y = answer refl

pub number : Unique its.number.Kinds.ps its.number.Kinds.r its.number.Reads.Post
number κs a x y p q = answer refl (found_once _ _ x.0 y.0 p q) refl
