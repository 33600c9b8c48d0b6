-- A byte pulled.
use Rattle.std.specs.Prelude.{ℕ}
use Rattle.rules.specs.declared.Purpose.TheVariants.{Wasted, Stack}
use Rattle.rules.specs.Basics.{sum8}
use Rattle.rules.specs.Operations.{stack}
use Rattle.rules.specs.Cycles.{Cycles, ◌>>◌}
use Rattle.rules.specs.Addressing.{get}

-- "read at S, read at S+1"
abbrev pub pulled_at : ℕ → Cycles ℕ
pulled_at s = get Wasted (stack s) >> get Stack (stack (sum8 s 1))
