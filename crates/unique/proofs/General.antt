-- What it is that no second answer fits a contract, and what the laws of the crates share.
use Prim.Native.Nat.{ℕ}
use mathlib.Core.Path.{◌≡◌, sym, ◌∙◌}
use mathlib.Core.List.{List}
use contract.Lifetimes.{Lfts}
use borrow.Fn.Kinds.{ParamKind, ResultKind, Dens, In, Out, ended_of, res_t}
use denote.Triple.Clauses.{Lasts, at_exit}

module _ {n : ℕ} (ps : List (ParamKind n)) (r : ResultKind n) where
  -- one answer fits, with one last content of every buffer that was lent to be written
  abbrev One : Out n ps r → (κs : Lfts n) → Dens κs ps → Type 0
  One Post κs a =
      (x y : (res_t r κs).Denot × Lasts (ended_of n ps r) κs a) → Post κs a x.0 (at_exit (ended_of n ps r) κs a x.1) →
      Post κs a y.0 (at_exit (ended_of n ps r) κs a y.1) → x ≡ y

  abbrev pub Unique : Out n ps r → Type 0
  Unique Post = (κs : Lfts n) (a : Dens κs ps) → One Post κs a

  -- a contract that speaks of entries that stand for something
  abbrev pub UniqueWhere : In n ps → Out n ps r → Type 0
  UniqueWhere Given Post = (κs : Lfts n) (a : Dens κs ps) → Given κs a → One Post κs a

  -- a contract in which something outside has a part, as a reader: one answer fits, once what that did is given
  abbrev pub UniqueGiven : Out n ps r → Out n ps r → Type 0
  UniqueGiven Given Post = Unique (λ κs a x s. Given κs a x s × Post κs a x s)

-- no buffer was lent
pub answer : {A L : Type 0} {x y : A × L} {e : A} → x.1 ≡ y.1 → x.0 ≡ e → y.0 ≡ e → x ≡ y
answer l p q i = ((p ∙ sym q) i, l i)

-- one buffer was lent, as the first parameter, and nothing is answered
pub lent : {L : Type 0} {x y : Unit {0} × (List ℕ × L)} {e : List ℕ} → x.1.1 ≡ y.1.1 → x.1.0 ≡ e → y.1.0 ≡ e → x ≡ y
lent l p q i = (tt, ((p ∙ sym q) i, l i))

-- one buffer was lent, as the first parameter, and something is answered
pub both : {A L : Type 0} {x y : A × (List ℕ × L)} {e : A} {l : List ℕ} → x.1.1 ≡ y.1.1 → x.0 ≡ e → y.0 ≡ e →
    x.1.0 ≡ l → y.1.0 ≡ l → x ≡ y
both r p q s t i = ((p ∙ sym q) i, ((s ∙ sym t) i, r i))

-- one buffer was lent, as the second parameter, and nothing is answered
pub lent_second : {L : Type 0} {x y : Unit {0} × (Unit {0} × (List ℕ × L))} {e : List ℕ} → x.1.1.1 ≡ y.1.1.1 →
    x.1.1.0 ≡ e → y.1.1.0 ≡ e → x ≡ y
lent_second l p q i = (tt, (tt, ((p ∙ sym q) i, l i)))
