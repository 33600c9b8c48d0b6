-- What an address reaches.
use Rattle.std.specs.Prelude.{ℕ, ◌+◌, ◌%◌, ltb}
use Rattle.rules.specs.Basics.{when◌then◌else◌}

-- the byte of the image that an address reaches where no register is
abbrev pub reached : ℕ → ℕ → ℕ → ℕ
reached plain base p = when ltb p plain then p % 256 else base + p
