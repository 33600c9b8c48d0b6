-- What well-formed means beside P.
use Rattle.std.specs.Prelude.{ℕ, Bool, ◌&&◌}
use Rattle.rules.specs.Record.{part_fits, register_fits, level_fits, pages_fit}

-- what a well-formed record says of its part
abbrev pub rest_fits : ℕ → ℕ → ℕ → ℕ → ℕ → Bool
rest_fits part first second level pages =
    part_fits part && register_fits part first && register_fits part second && level_fits part level && pages_fit part pages
