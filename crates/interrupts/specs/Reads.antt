-- How an interrupt and a reset begin, and what a reset reads where an interrupt pushes.
use Rattle.std.specs.Prelude.{ℕ}
use Rattle.rules.specs.declared.Purpose.TheVariants.{Wasted, Stack}
use Rattle.rules.specs.Operations.{stack, down}
use Rattle.rules.specs.Cycles.{Cycles, done, ◌>>◌}
use Rattle.rules.specs.Addressing.{get}

-- "read PC twice"
abbrev pub two_reads : ℕ → Cycles (Unit {0})
two_reads p = do
  get Wasted p
  get Wasted p
  done tt

-- "three stack reads in place of pushes"
abbrev pub three_reads : ℕ → Cycles (Unit {0})
three_reads s = do
  get Stack (stack s)
  get Stack (stack (down 1 s))
  get Stack (stack (down 2 s))
  done tt
