-- Sums as the loop goes over them.
use Prim.Native.Nat.{ℕ, zero, suc, ◌+◌, ◌<◌}
use native.Mathlib.Omega.{arith}
use mathlib.Core.Path.{◌≡◌}
use mathlib.Core.List.{List, [], ◌∷◌}
use lib.ListN.{length, take}
use Rattle.rules.specs.Basics.{at}
use Rattle.rules.specs.Pages.{sum}

pub sum_more : (l : List ℕ) (k : ℕ) → k < length l → sum (take (suc k) l) ≡ sum (take k l) + at l k
unfolding sum
sum_more [] k h = absurd (omega arith)
sum_more (x ∷ l) zero h = omega arith
sum_more (x ∷ l) (suc k) h = let e = sum_more l k (omega arith) in omega arith
