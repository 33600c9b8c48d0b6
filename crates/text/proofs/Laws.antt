-- The lengths of lines, and texts put one behind the other.
use Prim.Native.Nat.{ℕ, zero, suc, ◌+◌, ◌*◌, ◌<◌}
use native.Mathlib.Omega.{arith}
use mathlib.Core.Path.{◌≡◌, refl}
use mathlib.Core.List.{List, []}
use lib.ListN.{length, take, get_or, length-append}
use Rattle.std.proofs.lemmas.List.{get_or-take}
use Rattle.rules.specs.Basics.{at}
use Rattle.laws.proofs.Lists.{in_chunk}
use Rattle.std.specs.Simd.{first_chunks}
use Rattle.rules.specs.Text.{hex, each, access_line, line_of, bytes_text, record_line}

pub each_length : (f : ℕ → List ℕ) (w : ℕ) → ((k : ℕ) → length (f k) ≡ w) → (n : ℕ) → length (each n f) ≡ n * w
unfolding each
each_length f w wide zero = omega arith
each_length f w wide (suc n) = rw (length-append (each n f) (f n), each_length f w wide n, wide n) (omega arith)

pub line_length : (l : List ℕ) (k : ℕ) → length (line_of l k) ≡ 14
unfolding access_line
line_length l k = refl

pub bytes_length : (r : List ℕ) → length (bytes_text r) ≡ 32
bytes_length r = each_length (λ k. hex (at r k)) 2 (λ k. refl) 16

pub record_length : (r : List ℕ) → length (record_line r) ≡ 35
unfolding record_line
record_length r = rw (length-append, bytes_length r)

-- an access among the first n of a list is printed as by itself
pub line_at : (n m k : ℕ) (l : List ℕ) → k < n → k < m → line_of (get_or (take n (first_chunks 8 m l)) k []) 0 ≡ line_of l k
line_at n m k l h i =
    let here : (j : ℕ) → j < 8 → at (get_or (first_chunks 8 m l) k []) j ≡ at l (8 * k + j) =
    λ j s. let e : 8 * k + j ≡ k * 8 + j = omega arith in rw e (in_chunk 8 m k j l i s) in
    let first : 8 * k + 0 ≡ 8 * k = omega arith in
    rw (get_or-take n (first_chunks 8 m l) k [] h, here 4 (omega arith), here 2 (omega arith), here 1 (omega arith))
    (rw (here 0 (omega arith), first, here 3 (omega arith), here 5 (omega arith)))
