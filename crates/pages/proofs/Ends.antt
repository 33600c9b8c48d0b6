-- The last four bytes of records, each as one number and the bits of all put together.
use Prim.Native.Nat.{ℕ, ◌+◌, ◌*◌, ◌%◌, ◌<◌, ◌^◌}
use native.Mathlib.Omega.{arith}
use native.Mathlib.Decide.{dec_lt}
use mathlib.Core.Path.{◌≡◌, refl}
use mathlib.Core.Bool.{Bool, true, false, ◌&&◌}
use borrow.Author.Tests.{lt-ltb, le-ltb}
use lib.Dec.{ltb}
use lib.Bits.{bit_or, and_le_l, and_le_r, or_lt, or_add_and, or_mod}
use mathlib.Core.List.{List, []}
use lib.ListN.{get_or}
use Rattle.std.specs.Simd.{first_chunks}
use Rattle.rules.specs.Basics.{at}
use Rattle.rules.specs.Pages.{is_record}
use Rattle.laws.proofs.Tests.{and_true}
use Rattle.laws.proofs.Lists.{in_chunk}
use Rattle.pages.specs.Ends.{end_fits}
use Rattle.pages.proofs.Counting.{and_false}

pub and_swap : (p q : Bool) → (p && q) ≡ (q && p)
and_swap true q = rw (and_true q)
and_swap false q = rw (and_false q)

-- both are below a power of two where their bits together are
below : (k a b : ℕ) → ltb (bit_or a b) (2 ^ k) ≡ (ltb a (2 ^ k) && ltb b (2 ^ k))
below k a b = go (dec_lt a (2 ^ k)) (dec_lt b (2 ^ k))
  where
    go : Dec (a < 2 ^ k) → Dec (b < 2 ^ k) → ltb (bit_or a b) (2 ^ k) ≡ (ltb a (2 ^ k) && ltb b (2 ^ k))
    go (yes g) (yes h) = rw (lt-ltb (bit_or a b) (2 ^ k) (or_lt k a b g h), lt-ltb a (2 ^ k) g, lt-ltb b (2 ^ k) h)
    go (no g) h =
        rw (le-ltb (bit_or a b) (2 ^ k) (omega (arith, or_add_and a b, and_le_r a b)), le-ltb a (2 ^ k) (omega arith))
    go (yes g) (no h) =
        rw (le-ltb (bit_or a b) (2 ^ k) (omega (arith, or_add_and a b, and_le_l a b)), lt-ltb a (2 ^ k) g, le-ltb b (2 ^ k) (omega arith))

four : (p q r s : Bool) → ((p && q) && (r && s)) ≡ ((p && r) && (q && s))
four false q r s = refl
four true false true s = refl
four true false false s = refl
four true true r s = refl

-- all fit where their bits together do
pub together : (m n : ℕ) → end_fits (bit_or m n) ≡ (end_fits m && end_fits n)
together m n =
    rw (or_mod m n 8, below 11 m n, below 1 (m % 256) (n % 256)) (four (ltb m 2048) (ltb n 2048) (ltb (m % 256) 2) (ltb (n % 256) 2))

-- a byte of a record of a list
pub byte_at : (n k j : ℕ) (l : List ℕ) → k < n → j < 8 → at (get_or (first_chunks 8 n l) k []) j ≡ at l (8 * k + j)
byte_at n k j l h i = let e : 8 * k + j ≡ k * 8 + j = omega arith in rw e (in_chunk 8 n k j l h i)

-- a record is judged in its place as by itself
pub record_at : (n k : ℕ) (l : List ℕ) → k < n → is_record (get_or (first_chunks 8 n l) k []) 0 ≡ is_record l k
record_at n k l h =
    rw (byte_at n k 4 l h (omega arith), byte_at n k 5 l h (omega arith))
    (rw (byte_at n k 6 l h (omega arith), byte_at n k 7 l h (omega arith)))
