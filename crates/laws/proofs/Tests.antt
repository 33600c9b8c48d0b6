-- Tests: over a range of numbers, joined by &&, and in order.
use Prim.Native.Nat.{ℕ, zero, suc, ◌<◌}
use native.Mathlib.Omega.{arith}
use native.Mathlib.Nat.{le_of_suc-le-suc, not-suc-le-zero}
use native.Mathlib.Decide.{ℕ_discrete}
use mathlib.Core.Path.{◌≡◌, refl, sym, subst, ◌∙◌}
use mathlib.Core.Bool.{Bool, true, false, ◌&&◌, false≢true}
use mathlib.Core.List.{List, [], ◌∷◌, ◌++◌}
use lib.Arith.{lt_of_le-ne}
use Rattle.std.specs.Prelude.{Result, Ok, Err}
use Rattle.rules.specs.declared.Refusal.{Refusal}
use Rattle.rules.specs.Basics.{when◌then◌else◌, all}
use Rattle.rules.specs.Answers.{Test, tested}

pub and_left : (a b : Bool) → (a && b) ≡ true → a ≡ true
and_left true b h = refl
and_left false b h = h

pub and_right : (a b : Bool) → (a && b) ≡ true → b ≡ true
and_right true b h = h
and_right false b h = absurd (false≢true h)

pub and_true : (b : Bool) → (b && true) ≡ b
and_true true = refl
and_true false = refl

pub six : (a b c d e f : Bool) → (a && b && c && d && e && f) ≡ true →
    (a ≡ true) × (b ≡ true) × (c ≡ true) × (d ≡ true) × (e ≡ true) × (f ≡ true)
six a b c d e f h = search (and_left, and_right) depth 8

pub all_at : (n : ℕ) (f : ℕ → Bool) → all n f ≡ true → (k : ℕ) → k < n → f k ≡ true
all_at zero f t k h = absurd (not-suc-le-zero h)
all_at (suc n) f t k h = go (λ l. all_at n f (and_right (f n) (all n f) t) k l) (ℕ_discrete k n)
  where
    go : (k < n → f k ≡ true) → Dec (k ≡ n) → f k ≡ true
    go rest (yes e) = subst (λ (m : ℕ). f m ≡ true) (sym e) (and_left (f n) (all n f) t)
    go rest (no ne) = rest (lt_of_le-ne (le_of_suc-le-suc h) ne)

pub if_case : {A : Type 0} (P : A → Type 0) (b : Bool) (x y : A) → (b ≡ true → P x) → (b ≡ false → P y) → P (when b then x else y)
if_case P true x y p q = p refl
if_case P false x y p q = q refl

pub if_both : {A B : Type 0} (R : A → B → Type 0) (b : Bool) (x y : A) (v w : B) → R x v → R y w →
    R (when b then x else y) (when b then v else w)
if_both R true x y v w p q = p
if_both R false x y v w p q = q

-- Tests in order: each refusal is one of them, and what comes after all is reached exactly where all hold.

abbrev pub Hold : List Test → Type 0
Hold [] = Unit {0}
Hold (t ∷ ts) = (t.holds ≡ true) × Hold ts

pub tested_case : {A : Type 0} (P : A → Type 0) (ts : List Test) (refuse : Refusal → A) (a : A) → ((e : Refusal) → P (refuse e)) →
    (Hold ts → P a) → P (tested ts refuse a)
tested_case P [] refuse a r g = g tt
tested_case P (t ∷ ts) refuse a r g =
    if_case P t.holds _ _ (λ h. tested_case P ts refuse a r (λ hs. g (h, hs))) (λ h. r t.refusal)

pub tested_all : {A : Type 0} (ts : List Test) (refuse : Refusal → A) (a : A) → Hold ts → tested ts refuse a ≡ a
tested_all [] refuse a hs = refl
tested_all (t ∷ ts) refuse a hs = rw hs.0 (tested_all ts refuse a hs.1)

pub tested_both : {A B : Type 0} (R : A → B → Type 0) (ts : List Test) (p : Refusal → A) (q : Refusal → B) (x : A) (y : B) →
    ((e : Refusal) → R (p e) (q e)) → R x y → R (tested ts p x) (tested ts q y)
tested_both R [] p q x y r h = h
tested_both R (t ∷ ts) p q x y r h = if_both R t.holds _ _ _ _ (tested_both R ts p q x y r h) (r t.refusal)

-- tests in order, and more of them
pub tested_append : {A : Type 0} (ts us : List Test) (refuse : Refusal → A) (a : A) →
    tested (ts ++ us) refuse a ≡ tested ts refuse (tested us refuse a)
tested_append [] us refuse a = refl
tested_append (t ∷ ts) us refuse a = rw (tested_append ts us refuse a)

-- What a function answers of tests by a `Result` says how any other answer comes out.
module _ {A : Type 0} (ts : List Test) (refuse : Refusal → A) (a : A) (r : Result (Unit {0}) Refusal) where
  pub tested_refused : (e : Refusal) → r ≡ tested ts Err (Ok tt) → r ≡ Err e → tested ts refuse a ≡ refuse e
  tested_refused e h is =
      tested_both (λ (s : Result (Unit {0}) Refusal) (x : A). s ≡ Err e → x ≡ refuse e) ts Err refuse (Ok tt) a
      (λ d i. let same : d ≡ e = cc in rw same) (λ i. let z : ◌≡◌ {A = ℕ} 0 1 = cc in absurd (omega arith)) (sym h ∙ is)

  pub tested_passed : r ≡ tested ts Err (Ok tt) → r ≡ Ok tt → tested ts refuse a ≡ a
  tested_passed h is =
      tested_both (λ (s : Result (Unit {0}) Refusal) (x : A). s ≡ Ok tt → x ≡ a) ts Err refuse (Ok tt) a
      (λ d i. let z : ◌≡◌ {A = ℕ} 0 1 = cc in absurd (omega arith)) (λ i. refl) (sym h ∙ is)
