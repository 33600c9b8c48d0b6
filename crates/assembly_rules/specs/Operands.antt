-- What stands behind a name, where it is an operand: "modes written as in the data sheets".
use Rattle.std.specs.Prelude.{ℕ, Bool, List, Option, Some, None, eqb}
use Prim.Native.Char.{code}
use Rattle.rules.specs.Basics.{when◌then◌else◌}
use Rattle.assembly_rules.specs.declared.Operand.{Operand}
use Rattle.assembly_rules.specs.declared.Operand.TheVariants.{Nothing, Accumulator, Immediate, Address, AddressX, AddressY}
use Rattle.assembly_rules.specs.declared.Operand.TheVariants.{IndirectX, IndirectY, Indirect}
use Rattle.assembly_rules.specs.Characters.{place, Next, next}
use Rattle.assembly_rules.specs.Sums.{Read, value, none, sum}

-- the operand, where nothing follows it
abbrev pub lastly : List ℕ → Operand → Option Operand
lastly s o = when eqb (next s).character 256 then Some o else None

-- "Letters may be small or large": their places
abbrev pub is_x : ℕ → Bool
is_x c = eqb (place c) 33

abbrev pub is_y : ℕ → Bool
is_y c = eqb (place c) 34

abbrev pub is_a : ℕ → Bool
is_a c = eqb (place c) 10

-- behind a sum and a comma
abbrev pub indexed : ℕ → Bool → Next → Option Operand
indexed v four n =
    when is_x n.character then lastly n.rest (AddressX v four)
    else when is_y n.character then lastly n.rest (AddressY v four) else None

-- a sum, "sum,X" or "sum,Y"
abbrev pub plain : Read → Option Operand
plain none = None
plain (value v four s) =
    let n = next s in
    when eqb n.character 256 then Some (Address v four)
    else when eqb n.character (code ",") then indexed v four (next n.rest) else None

-- behind (sum,
abbrev pub inside_x : ℕ → Next → Option Operand
inside_x v n =
    when is_x n.character then
    (let p = next n.rest in when eqb p.character (code ")") then lastly p.rest (IndirectX v) else None)
    else None

-- behind (sum)
abbrev pub behind : ℕ → Next → Option Operand
behind v n =
    when eqb n.character 256 then Some (Indirect v)
    else when eqb n.character (code ",") then
    (let p = next n.rest in when is_y p.character then lastly p.rest (IndirectY v) else None)
    else None

-- "(sum,X)", "(sum),Y" or "(sum)", behind the first bracket
abbrev pub pointed : Read → Option Operand
pointed none = None
pointed (value v four s) =
    let n = next s in
    when eqb n.character (code ",") then inside_x v (next n.rest)
    else when eqb n.character (code ")") then behind v (next n.rest) else None

abbrev pub immediate : Read → Option Operand
immediate none = None
immediate (value v four s) = lastly s (Immediate v)

unfoldable pub operand : List ℕ → Option Operand
operand s =
    let n = next s in
    when eqb n.character 256 then Some Nothing
    else when eqb n.character (code "#") then immediate (sum n.rest)
    else when eqb n.character (code "(") then pointed (sum n.rest)
    else when is_a n.character then lastly n.rest Accumulator
    else plain (sum s)
