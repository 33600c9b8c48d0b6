-- What `print` answers and leaves in the buffers that it was lent.
use Rattle.std.specs.Prelude.{ℕ, List, ◌++◌, length, take, drop}
use Rattle.rules.specs.Basics.{at}
use Rattle.rules.specs.Bus.{images}
use Rattle.rules.specs.Answers.{tested}
use Rattle.rules.specs.Step.{front}
use Rattle.rules.specs.Text.{input_tests, step_of, printed}

pub record Printout : Type 0 where
  pub count : ℕ
  pub input : List ℕ
  pub text : List ℕ

abbrev pub printout : ℕ → List ℕ → List ℕ → Printout
printout n i t = record { count = n; input = i; text = t }

-- the input with its image as the step leaves it
unfoldable pub input_after : List ℕ → List ℕ
input_after i =
    tested (input_tests (length i) (take 16 i)) (λ e. i) (take 18 i ++ (step_of images (take 16 i) (at i 16) (at i 17) (drop 18 i)).image)

-- the text fills the buffer's front and later bytes stay
abbrev pub printing : List ℕ → List ℕ → Printout
printing i t = printout (length (printed i)) (input_after i) (front (printed i) t)
