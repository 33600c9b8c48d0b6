-- A list's last choice.
use Prim.Native.Nat.{ℕ, zero, suc, ◌≤◌}
use native.Mathlib.Nat.{not-suc-le-zero, le_of_suc-le-suc}
use native.Mathlib.Omega.{arith}
use mathlib.Core.Path.{◌≡◌, refl}
use mathlib.Core.List.{List, [], ◌∷◌}
use lib.ListN.{length, get_or}

-- n is none of 0, 1, .., k - 1: what the last arm of a match on these numbers knows
abbrev Left : ℕ → ℕ → Type 0
Left n zero = Unit {0}
Left n (suc k) = Left n k × (n ≡ k → ⊥)

above : (n k : ℕ) → Left n k → k ≤ n
above n zero h = omega arith
above n (suc k) h = let l = above n k h.0 in let d = h.1 in omega arith

beyond : {A : Type 0} (l : List A) (n : ℕ) (d : A) → length l ≤ n → d ≡ get_or l n d
beyond [] n d h = refl
beyond (x ∷ l) zero d h = absurd (not-suc-le-zero h)
beyond (x ∷ l) (suc n) d h = beyond l n d (le_of_suc-le-suc h)

pub last : {A : Type 0} (l : List A) (n : ℕ) (d : A) → Left n (length l) → d ≡ get_or l n d
last l n d h = beyond l n d (above n (length l) h)
