-- Numbers and lists as the loops of counting go over them.
use Prim.Native.Nat.{ℕ, ◌+◌, ◌<◌}
use native.Mathlib.Numerals.{add-one}
use native.Mathlib.Omega.{arith}
use mathlib.Core.Path.{◌≡◌, refl}
use mathlib.Core.Bool.{Bool, true, false, ◌&&◌}
use mathlib.Core.List.{List}
use borrow.Author.Tests.{leb-true, eq-eqb, ne_eqb}
use Rattle.rules.specs.Basics.{all}
use Rattle.rules.specs.Pages.{page_of, kind_of, is_record, raised, counted}
use Rattle.laws.proofs.Tests.{and_left, all_at}

pub and_false : (b : Bool) → (b && false) ≡ false
and_false true = refl
and_false false = refl

-- One record more counts where it is of the kind, and else does not.
module _ (kind : ℕ) (counts l : List ℕ) (k : ℕ) where
  pub raises : kind_of l k ≡ kind → counted kind counts l (k + 1) ≡ raised (counted kind counts l k) (page_of l k)
  unfolding counted
  raises e = rw (add-one k, eq-eqb (kind_of l k) kind e)

  pub skips : (kind_of l k ≡ kind → ⊥) → counted kind counts l (k + 1) ≡ counted kind counts l k
  unfolding counted
  skips e = rw (add-one k, ne_eqb (kind_of l k) kind e)

-- a record that is no read is a write
pub is_write : (l : List ℕ) (n k : ℕ) → all n (is_record l) ≡ true → k < n → (kind_of l k ≡ 0 → ⊥) → kind_of l k ≡ 1
is_write l n k h i e =
    let t = leb-true (kind_of l k) 1 (and_left _ _ (and_left _ _ (and_left _ _ (all_at n (is_record l) h k i)))) in
    omega arith
