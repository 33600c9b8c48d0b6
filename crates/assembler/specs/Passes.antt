-- What a pass over a text comes to, line by line.
use Rattle.std.specs.Prelude.{◌≡◌, ℕ, ◌+◌, Bool, true, false, List, [], ◌∷◌, nat_le, Result, Ok, Err}
use Rattle.rules.specs.Basics.{when◌then◌else◌}
use Rattle.rules.specs.Step.{front}
use Rattle.assembly_rules.specs.declared.Fault.{Fault}
use Rattle.assembly_rules.specs.declared.Fault.TheVariants.{NoRoom}
use Rattle.assembly_rules.specs.declared.Line.{Line}
use Rattle.assembly_rules.specs.declared.Line.TheVariants.{Nothing, One, Two, Three}
use Rattle.assembly_rules.specs.declared.BadLine.{BadLine}
use Rattle.assembly_rules.specs.Assembly.{Made, made, answer}

abbrev pub bytes_of : Line → List ℕ
bytes_of Nothing = []
bytes_of (One a) = a ∷ []
bytes_of (Two a b) = a ∷ b ∷ []
bytes_of (Three a b c) = a ∷ b ∷ c ∷ []

-- so many bytes more, behind the first count
abbrev pub fitted_to : ℕ → ℕ → ℕ → Result ℕ Fault
fitted_to room count size = when nat_le (count + size) room then Ok (count + size) else Err NoRoom

abbrev pub step_to : ℕ → ℕ → Line → Result ℕ Fault
step_to room count Nothing = fitted_to room count 0
step_to room count (One a) = fitted_to room count 1
step_to room count (Two a b) = fitted_to room count 2
step_to room count (Three a b c) = fitted_to room count 3

-- a pass that writes, or only judges
pub record Passes (m : Made) (writing : Bool) (a : Result ℕ BadLine) (buffer buffer' : List ℕ) : Type 0 where
  pub answered : a ≡ answer m
  pub judged : writing ≡ false → buffer' ≡ buffer
  pub written : writing ≡ true → (bytes : List ℕ) → m ≡ made bytes → buffer' ≡ front bytes buffer
