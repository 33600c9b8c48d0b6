-- "The 151 opcodes stand in a table of 256 entries; the other 105 are undefined."
use Prim.Native.Nat.{ℕ, zero, suc, ◌+◌, ◌<◌}
use native.Mathlib.Nat.{not-suc-le-zero, le_of_suc-le-suc}
use native.Mathlib.Omega.{arith}
use mathlib.Core.Path.{◌≡◌, refl, sym, ap, ◌∙◌}
use mathlib.Core.List.{List, [], ◌∷◌, map}
use lib.ListN.{length, get_or}
use Rattle.rules.specs.Basics.{bit}
use Rattle.rules.specs.Opcodes.{Entry, undefined, is_defined, rows, decode}
use Rattle.rules.specs.Table.{table}

abbrev defined : List Entry → ℕ
defined [] = 0
defined (e ∷ l) = bit (is_defined e) + defined l

-- n numbers from k on
abbrev pub from : ℕ → ℕ → List ℕ
from k zero = []
from k (suc n) = k ∷ from (suc k) n

-- what is made of each number stands at that number
made_from : {A : Type 0} (f : ℕ → A) (d : A) (n i k : ℕ) → i < n → get_or (map f (from k n)) i d ≡ f (k + i)
made_from f d zero i k h = absurd (omega arith)
made_from f d (suc n) zero k h = ap f (omega arith)
made_from f d (suc n) (suc i) k h = made_from f d n i (suc k) (omega arith) ∙ ap f (omega arith)

pub made_at : {A : Type 0} (f : ℕ → A) (d : A) (i : ℕ) → i < 256 → get_or (map f (from 0 256)) i d ≡ f i
made_at f d i h = let e : 0 + i ≡ i = omega arith in made_from f d 256 i 0 h ∙ ap f e

-- the one computed test, of all 256 entries
agrees : table ≡ map decode (from 0 256)
unfolding table decode
agrees = refl

-- no opcode stands in two rows
rows_are : length rows ≡ 151
rows_are = refl

defined_are : defined table ≡ 151
unfolding table
defined_are = refl

pub table_at : (i : ℕ) → i < 256 → get_or table i undefined ≡ decode i
table_at i h = rw agrees (made_at decode undefined i h)

pub at_map : {A B : Type 0} (f : A → B) (l : List A) (n : ℕ) (x : B) (d : A) → n < length l → get_or (map f l) n x ≡ f (get_or l n d)
at_map f [] n x d h = absurd (not-suc-le-zero h)
at_map f (y ∷ l) zero x d h = refl
at_map f (y ∷ l) (suc n) x d h = at_map f l n x d (le_of_suc-le-suc h)

-- a list made of the table's entries has at n what is made of opcode n
pub at_opcode : {A : Type 0} (f : Entry → A) (x : A) (n : ℕ) → n < 256 → get_or (map f table) n x ≡ f (decode n)
unfolding table
at_opcode f x n h = at_map f table n x undefined h ∙ ap f (table_at n h)

-- so a claim on all entries is one on each opcode
pub everywhere : {A : Type 0} (f g : Entry → A) → map f table ≡ map g table → (n : ℕ) → n < 256 → f (decode n) ≡ g (decode n)
everywhere f g e n h = sym (at_opcode f (f undefined) n h) ∙ (rw e (at_opcode g (f undefined) n h))
