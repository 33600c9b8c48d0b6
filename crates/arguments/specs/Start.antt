-- What the argument says.
use Rattle.std.specs.Prelude.{ℕ, ◌&&◌, eqb, leb, List, length, take, Option, Some, None, Result, Ok, Err}
use Rattle.std.specs.declared.env.FillError.{FillError}
use Rattle.std.specs.declared.env.FillError.TheVariants.{NotPresent, TooLong}
use Rattle.rules.specs.Basics.{when◌then◌else◌}
use Rattle.assembly_rules.specs.Sums.{Read, value, none, number}

-- a number of four digits, and nothing behind it
abbrev pub alone : Read → Option ℕ
alone none = None
alone (value v four rest) = when four && eqb (length rest) 0 then Some v else None

-- "the first argument is the start, four hexadecimal digits"
abbrev pub start_of : List ℕ → Option ℕ
start_of argument = alone (number argument)

-- what the system said of the first argument and of the second: the first stands in the room, and there is no second
abbrev pub only_start : Result ℕ FillError → Result ℕ FillError → List ℕ → Option ℕ
only_start (Ok size) (Err NotPresent) room = when leb size (length room) then start_of (take size room) else None
only_start (Ok size) (Err TooLong) room = None
only_start (Ok size) (Ok more) room = None
only_start (Err e) second room = None
