-- What step and run test first, and what fits.
use Rattle.std.specs.Prelude.{ℕ, ◌≡◌, true, ⊤, List, length, Result, Ok, Err}
use Rattle.rules.specs.declared.Refusal.{Refusal}
use Rattle.rules.specs.Basics.{at}
use Rattle.rules.specs.Answers.{tested}
use Rattle.rules.specs.Bus.{images}
use Rattle.rules.specs.Record.{well_formed}
use Rattle.rules.specs.Step.{image_fits, record_tests}

abbrev pub fit_of : List ℕ → List ℕ → Result ⊤ Refusal
fit_of r m = tested (record_tests images r m) Err (Ok tt)

-- a record and an image that passed
pub record Fits (r m : List ℕ) : Type 0 where
  pub whole : length r ≡ 16
  pub formed : well_formed r ≡ true
  pub image : image_fits (at r 0) (length m) ≡ true
