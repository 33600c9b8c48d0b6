-- The rows of the 56 mnemonics say what the rows of the rules say: computed tests on the 56, and on the 151, and what follows of any name.
use Prim.Native.Nat.{ℕ}
use mathlib.Core.Path.{◌≡◌, refl, sym, ap, ◌∙◌}
use mathlib.Core.Bool.{Bool, true, false, ◌&&◌, false≢true}
use mathlib.Core.List.{List, [], ◌∷◌}
use borrow.Author.Tests.{eqb-true, ne_eqb}
use lib.Dec.{eqb}
use Rattle.std.specs.Prelude.{Option, Some, None, is_some, option_and_then}
use Rattle.std.specs.Option.{option_eq}
use Rattle.rules.specs.Basics.{when◌then◌else◌}
use Rattle.rules.specs.Opcodes.{Row, rows}
use Rattle.assembly_rules.specs.declared.Shape.{Shape}
use Rattle.assembly_rules.specs.declared.Shape.TheVariants as shape
use Rattle.assembly_rules.specs.Mnemonics.{name_of, numbered, row_of as made, opcode_among, opcode_of, named_among, is_mnemonic}
use Rattle.laws.proofs.Tests.{and_left, and_right}
use Rattle.mnemonics.specs.Rows.{Known, known, row_among, row_of, opcode_in}

module _ (f : Shape → Bool) where
  abbrev each_shape : Bool
  each_shape =
      f shape.Implied && f shape.Accumulator && f shape.Immediate && f shape.Zero && f shape.ZeroX && f shape.ZeroY && f shape.IndirectX &&
      f shape.IndirectY && f shape.Relative && f shape.Absolute && f shape.AbsoluteX && f shape.AbsoluteY && f shape.Indirect

  at_shape : each_shape ≡ true → (s : Shape) → f s ≡ true
  at_shape t shape.Implied = search (and_left, and_right) depth 16
  at_shape t shape.Accumulator = search (and_left, and_right) depth 16
  at_shape t shape.Immediate = search (and_left, and_right) depth 16
  at_shape t shape.Zero = search (and_left, and_right) depth 16
  at_shape t shape.ZeroX = search (and_left, and_right) depth 16
  at_shape t shape.ZeroY = search (and_left, and_right) depth 16
  at_shape t shape.IndirectX = search (and_left, and_right) depth 16
  at_shape t shape.IndirectY = search (and_left, and_right) depth 16
  at_shape t shape.Relative = search (and_left, and_right) depth 16
  at_shape t shape.Absolute = search (and_left, and_right) depth 16
  at_shape t shape.AbsoluteX = search (and_left, and_right) depth 16
  at_shape t shape.AbsoluteY = search (and_left, and_right) depth 16
  at_shape t shape.Indirect = search (and_left, and_right) depth 16

-- a claim on each of some names
abbrev each_name : List Known → (ℕ → Bool) → Bool
each_name [] f = true
each_name (k ∷ ks) f = f k.named && each_name ks f

abbrev is_among : List Known → ℕ → Bool
is_among [] m = false
is_among (k ∷ ks) m = when eqb m k.named then true else is_among ks m

at_name : (ks : List Known) (f : ℕ → Bool) → each_name ks f ≡ true → (m : ℕ) → is_among ks m ≡ true → f m ≡ true
at_name [] f t m h = absurd (false≢true h)
at_name (k ∷ ks) f t m h = go (eqb m k.named) refl h (at_name ks f (and_right (f k.named) (each_name ks f) t) m)
  where
    go : (b : Bool) → eqb m k.named ≡ b → (when b then true else is_among ks m) ≡ true → (is_among ks m ≡ true → f m ≡ true) →
        f m ≡ true
    go true e g rest = rw (eqb-true m k.named e) (and_left (f k.named) (each_name ks f) t)
    go false e g rest = rest g

-- no row of a name that is none of them
row_none : (ks : List Known) (m : ℕ) → is_among ks m ≡ false → row_among ks m ≡ None
row_none [] m h = refl
row_none (k ∷ ks) m h = go (eqb m k.named) h (row_none ks m)
  where
    go : (b : Bool) → (when b then true else is_among ks m) ≡ false → (is_among ks m ≡ false → row_among ks m ≡ None) →
        (when b then Some k.row else row_among ks m) ≡ None
    go true g rest = absurd (false≢true (sym g))
    go false g rest = rest g

-- each row of the rules has one of these names
abbrev each_row : List Row → Bool
each_row [] = true
each_row (r ∷ rs) = is_among known (name_of (made r)) && each_row rs

rows_after : (r : Row) (rs : List Row) → each_row (r ∷ rs) ≡ true → each_row rs ≡ true
rows_after r rs t = and_right (is_among known (name_of (made r))) (each_row rs) t

row_otherwise : (r : Row) (rs : List Row) (m : ℕ) → each_row (r ∷ rs) ≡ true → is_among known m ≡ false → eqb (name_of (made r)) m ≡ false
row_otherwise r rs m t h =
    ne_eqb (name_of (made r)) m (λ e. false≢true (sym h ∙ (rw e at (and_left (is_among known (name_of (made r))) (each_row rs) t))))

opcode_none : (rs : List Row) (m s : ℕ) → each_row rs ≡ true → is_among known m ≡ false → opcode_among rs m s ≡ None
opcode_none [] m s t h = refl
opcode_none (r ∷ rs) m s t h = rw (row_otherwise r rs m t h) (opcode_none rs m s (rows_after r rs t) h)

named_none : (rs : List Row) (m : ℕ) → each_row rs ≡ true → is_among known m ≡ false → named_among rs m ≡ false
named_none [] m t h = refl
named_none (r ∷ rs) m t h = rw (row_otherwise r rs m t h) (named_none rs m (rows_after r rs t) h)

option_same : (o p : Option ℕ) → option_eq eqb o p ≡ true → o ≡ p
option_same None None h = refl
option_same None (Some b) h = absurd (false≢true h)
option_same (Some a) None h = absurd (false≢true h)
option_same (Some a) (Some b) h = ap Some (eqb-true a b h)

-- The computed tests: the opcodes of the 56, in each shape; that they are mnemonics; and that there is no other.

-- the opcode that a row has in a shape, where there is a row
abbrev opcode_from : Option ℕ → Shape → Option ℕ
opcode_from o s = option_and_then (λ row. opcode_in row s) o

abbrev agrees : ℕ → Shape → Bool
agrees m s = option_eq eqb (opcode_from (row_of m) s) (opcode_of m s)

opcodes_agree : each_name known (λ m. each_shape (agrees m)) ≡ true
unfolding known opcode_of
opcodes_agree = refl

abbrev is_named : ℕ → Bool
is_named m = is_mnemonic m && is_some (row_of m)

names_agree : each_name known is_named ≡ true
unfolding known is_mnemonic
names_agree = refl

no_other : each_row rows ≡ true
unfolding known
no_other = refl

opcode_same : (m : ℕ) (s : Shape) → opcode_from (row_of m) s ≡ opcode_of m s
unfolding opcode_of
opcode_same m s = go (is_among known m) refl
  where
    go : (b : Bool) → is_among known m ≡ b → opcode_from (row_of m) s ≡ opcode_of m s
    go true e = option_same _ _ (at_shape (agrees m) (at_name known (λ n. each_shape (agrees n)) opcodes_agree m e) s)
    go false e = rw (row_none known m e, opcode_none rows m (numbered s) no_other e)

-- the same, by what the row of a name is found to be
pub opcode_there : (m row : ℕ) (s : Shape) → Some row ≡ row_of m → opcode_of m s ≡ opcode_in row s
opcode_there m row s e = sym (opcode_same m s) ∙ ap (λ (o : Option ℕ). opcode_from o s) (sym e)

pub opcode_missing : (m : ℕ) (s : Shape) → None ≡ row_of m → opcode_of m s ≡ None
opcode_missing m s e = sym (opcode_same m s) ∙ ap (λ (o : Option ℕ). opcode_from o s) (sym e)

pub mnemonic_same : (m : ℕ) → is_mnemonic m ≡ is_some (row_of m)
unfolding is_mnemonic
mnemonic_same m = go (is_among known m) refl
  where
    go : (b : Bool) → is_among known m ≡ b → is_mnemonic m ≡ is_some (row_of m)
    go true e =
        let t = at_name known is_named names_agree m e in
        and_left (is_mnemonic m) _ t ∙ sym (and_right (is_mnemonic m) _ t)
    go false e = rw (row_none known m e, named_none rows m no_other e)
