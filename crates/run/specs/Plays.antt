-- Where a run stands.
use Rattle.std.specs.Prelude.{ℕ, List}
use Rattle.rules.specs.Step.{Outcome, left}
use Rattle.rules.specs.Run.{Tally}

-- so many steps are done, and so many accesses listed
abbrev pub standing : ℕ → ℕ → List ℕ → List ℕ → List ℕ → Outcome Tally (List ℕ)
standing steps listed = left (record { steps = steps; listed = listed })
