-- What a run refuses before anything.
use Prim.Native.Nat.{ℕ, ◌%◌}
use mathlib.Core.Path.{◌≡◌, sym}
use mathlib.Core.List.{List}
use borrow.Author.Tests.{eq-eqb, ne_eqb}
use lib.ListN.{length, drop}
use Rattle.std.specs.Prelude.{Err}
use Rattle.rules.specs.declared.Refusal.{Refusal}
use Rattle.rules.specs.declared.Refusal.TheVariants.{ScriptLength}
use Rattle.rules.specs.Answers.{ended}
use Rattle.rules.specs.Bus.{images}
use Rattle.rules.specs.Run.{start, stopped, run_tests, play, run_of}
use Rattle.checks.specs.Checks.{fit_of, Fits}
use Rattle.checks.proofs.Fits.{unfit}
use Rattle.rules.specs.Step.{left}

module _ (r m l s : List ℕ) where
  pub run_unfit : (e : Refusal) → Err e ≡ fit_of r m → left (ended 0 0 (Err e)) r m l ≡ run_of images r m s l
  unfolding run_of
  run_unfit e h = sym (unfit r m (drop 3 (run_tests images r m s)) (stopped (start r m l)) _ e h)

  pub odd : Fits r m → (length s % 2 ≡ 0 → ⊥) → left (ended 0 0 (Err ScriptLength)) r m l ≡ run_of images r m s l
  unfolding run_of
  odd f h = rw (eq-eqb (length r) 16 f.whole, f.formed, f.image, ne_eqb (length s % 2) 0 h)

  pub even : Fits r m → length s % 2 ≡ 0 → play images s (start r m l) ≡ run_of images r m s l
  unfolding run_of
  even f h = rw (eq-eqb (length r) 16 f.whole, f.formed, f.image, eq-eqb (length s % 2) 0 h)
