-- What the first tests leave: a refusal of step and run alike, or a record and an image that fit.
use Prim.Native.Nat.{ℕ}
use native.Mathlib.Omega.{arith}
use mathlib.Core.Path.{◌≡◌, ap, ◌∙◌}
use mathlib.Core.List.{List, ◌++◌}
use borrow.Author.Tests.{eqb-true}
use lib.ListN.{length}
use Rattle.std.specs.Prelude.{⊤, Result, Ok, Err}
use Rattle.rules.specs.declared.Refusal.{Refusal}
use Rattle.rules.specs.Answers.{Test, tested}
use Rattle.rules.specs.Bus.{images}
use Rattle.rules.specs.Step.{record_tests}
use Rattle.laws.proofs.Tests.{tested_case, tested_both, tested_append}
use Rattle.checks.specs.Checks.{fit_of, Fits}

module _ (r m : List ℕ) where
  pub fits : Ok tt ≡ fit_of r m → Fits r m
  fits =
      tested_case (λ (x : Result ⊤ Refusal). Ok tt ≡ x → Fits r m) (record_tests images r m) Err (Ok tt)
      (λ e h. let z : ◌≡◌ {A = ℕ} 0 1 = cc in absurd (omega arith))
      (λ hs h. record { whole = eqb-true (length r) 16 hs.0; formed = hs.1.0; image = hs.1.1.0 })

  -- whatever else is tested later
  pub unfit : {A : Type 0} (us : List Test) (refuse : Refusal → A) (a : A) (e : Refusal) → Err e ≡ fit_of r m →
      tested (record_tests images r m ++ us) refuse a ≡ refuse e
  unfit {A} us refuse a e h =
      tested_append (record_tests images r m) us refuse a
      ∙ tested_both (λ (x : Result ⊤ Refusal) (y : A). Err e ≡ x → y ≡ refuse e) (record_tests images r m) Err refuse (Ok tt)
      (tested us refuse a)
      (λ d q. ap refuse (cc))
      (λ q. let z : ◌≡◌ {A = ℕ} 0 1 = cc in absurd (omega arith))
      h
