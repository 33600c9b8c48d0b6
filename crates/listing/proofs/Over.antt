-- A byte written over one of several that stand in a row.
use Prim.Native.Nat.{ℕ, zero, suc, ◌+◌, ◌<◌}
use native.Mathlib.Omega.{arith}
use mathlib.Core.Path.{◌≡◌, refl, ◌∙◌}
use mathlib.Core.List.{List, [], ◌∷◌}
use lib.ListN.{length, set}
use lib.Seq.{sets, set-set, set_comm}

before : (xs l : List ℕ) (p q v : ℕ) → q < p → set (sets l p xs) q v ≡ sets (set l q v) p xs
before [] l p q v h = refl
before (x ∷ xs) l p q v h =
    before xs (set l p x) (suc p) q v (omega arith) ∙ (rw (set_comm l p q x v (λ e. absurd (omega (arith, e)))))

pub over : (xs l : List ℕ) (p j v : ℕ) → j < length xs → set (sets l p xs) (p + j) v ≡ sets l p (set xs j v)
over [] l p j v h = absurd (omega arith)
over (x ∷ xs) l p zero v h =
    let e : p + 0 ≡ p = omega arith in rw e (before xs (set l p x) (suc p) p v (omega arith) ∙ (rw (set-set l p x v)))
over (x ∷ xs) l p (suc j) v h =
    let e : p + suc j ≡ suc p + j = omega arith in rw e (over xs (set l p x) (suc p) j v (omega arith))
