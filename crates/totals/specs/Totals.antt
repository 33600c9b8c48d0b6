-- All counts together.
use Rattle.std.specs.Prelude.{ℕ, ◌^◌, ltb, Option, Some, None}
use Rattle.rules.specs.Basics.{when◌then◌else◌}

-- a sum, or nothing where it passes 64 bits
abbrev pub total_of : ℕ → Option ℕ
total_of n = when ltb n (2 ^ 64) then Some n else None
