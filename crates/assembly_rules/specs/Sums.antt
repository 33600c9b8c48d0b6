-- "Operands are expressions of hexadecimal numbers (a leading dollar sign), plus, minus and square brackets, where a sum is made of terms
-- and a bracketed term is again a sum, at most 16 deep; values are modulo 65,536."
use Rattle.std.specs.Prelude.{ℕ, zero, suc, ◌+◌, ◌-◌, ◌%◌, Bool, false, ◌||◌, List, eqb, length}
use Prim.Native.Char.{code}
use Rattle.rules.specs.Basics.{when◌then◌else◌}
use Rattle.assembly_rules.specs.Characters.{Run, run, next}

-- What a reader finds at the front of a text: a value, whether it is a number "written with four digits alone", and what follows; or none.
pub data Read : Type 0 where
  value : ℕ → Bool → List ℕ → Read
  none : Read

-- "A number is $ and one to four digits": the digits
abbrev pub digits : Run → Read
digits r = when eqb r.left 4 then none else value r.value (eqb r.left 0) r.rest

abbrev pub number : List ℕ → Read
number s = digits (run 16 4 0 s)

-- a bracket is closed behind its sum
abbrev pub closed : Read → Read
closed none = none
closed (value v four s) = let n = next s in when eqb n.character (code "]") then value v false n.rest else none

-- "plus, minus"
abbrev pub is_sign : ℕ → Bool
is_sign c = eqb c (code "+") || eqb c (code "-")

-- "values are modulo 65,536"
abbrev pub total_of : ℕ → ℕ → ℕ → ℕ
total_of v sign w = (v + (when eqb sign (code "-") then 65536 - w else w)) % 65536

-- a term behind a value and a sign
abbrev pub joined : ℕ → ℕ → Read → Read
joined v sign none = none
joined v sign (value w four s) = value (total_of v sign w) false s

-- a sum goes on from its first term; as often as it has characters, which is enough
abbrev pub go_on : (List ℕ → Read) → ℕ → Read → Read
go_on term zero r = r
go_on term (suc k) none = none
go_on term (suc k) (value v four s) =
    let n = next s in when is_sign n.character then go_on term k (joined v n.character (term n.rest)) else value v four s

abbrev pub sum_by : (List ℕ → Read) → List ℕ → Read
sum_by term s = go_on term (length s) (term s)

-- a term in which so many brackets may be open at a time
unfoldable pub term : ℕ → List ℕ → Read
term zero s = let n = next s in when eqb n.character (code "$") then number n.rest else none
term (suc depth) s =
    let n = next s in
    when eqb n.character (code "$") then number n.rest
    else when eqb n.character (code "[") then closed (sum_by (term depth) n.rest) else none

-- "at most 16 deep"
abbrev pub deepest : ℕ
deepest = 16

abbrev pub sum : List ℕ → Read
sum s = sum_by (term deepest) s
