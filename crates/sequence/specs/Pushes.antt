-- What BRK and an interrupt push.
use Rattle.std.specs.Prelude.{ℕ}
use Rattle.rules.specs.declared.Purpose.TheVariants.{Stack}
use Rattle.rules.specs.Operations.{stack, down, push_pc}
use Rattle.rules.specs.Cycles.{Cycles, ◌>>◌}
use Rattle.rules.specs.Addressing.{put}

-- "push PC high, low, P"
abbrev pub push_three : ℕ → ℕ → ℕ → Cycles (Unit {0})
push_three pc s p = push_pc pc s >> put Stack (stack (down 2 s)) p
