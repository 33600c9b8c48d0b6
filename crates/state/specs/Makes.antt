-- What a function on the registers leaves in the sixteen bytes.
use Rattle.std.specs.Prelude.{◌≡◌, List, ℕ}
use Rattle.rules.specs.declared.Cpu.{Cpu}
use Rattle.rules.specs.declared.State.{State}
use Rattle.rules.specs.Record.{record_of}
use Rattle.laws.specs.States.{moved}

-- bytes r that stand for a state become bytes r' that stand for the same with other registers
abbrev pub Makes : (Cpu → Cpu) → List ℕ → List ℕ → Type 0
Makes f r r' = (s : State) → r ≡ record_of s → r' ≡ record_of (moved (f s.cpu) s.bus s)
