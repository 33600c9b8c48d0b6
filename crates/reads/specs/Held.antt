-- What an address holds.
use Rattle.std.specs.Prelude.{ℕ, ◌%◌, List, eqb}
use Rattle.rules.specs.declared.Bus.{Bus}
use Rattle.rules.specs.Basics.{when◌then◌else◌, at}
use Rattle.rules.specs.Bus.{is6508, port}

-- what an address below `plain` holds
abbrev pub low_held : Bus → List ℕ → ℕ → ℕ
low_held u i p = when eqb p 0 then u.first else when eqb p 1 then (when is6508 u.part then port u else u.second) else at i (p % 256)
