-- What a line means: the bytes that it makes, or what is wrong with it.
use Rattle.std.specs.Prelude.{ℕ, ◌+◌, ◌-◌, ◌/◌, ◌%◌, Bool, true, false, ◌||◌, List, [], ◌∷◌, Option, Some, None, Result, Ok, Err}
use Rattle.std.specs.Prelude.{ltb, leb, eqb}
use Rattle.std.specs.Option.{option_map_or}
use Prim.Native.Char.{code}
use Rattle.rules.specs.Basics.{when◌then◌else◌, sum16}
use Rattle.assembly_rules.specs.declared.Shape.{Shape}
use Rattle.assembly_rules.specs.declared.Shape.TheVariants as shape
use Rattle.assembly_rules.specs.declared.Operand.{Operand}
use Rattle.assembly_rules.specs.declared.Operand.TheVariants as operand
use Rattle.assembly_rules.specs.declared.Fault.{Fault}
use Rattle.assembly_rules.specs.declared.Fault.TheVariants.{NotALine, NoSuchMode, BranchTooFar, TooDeep}
use Rattle.assembly_rules.specs.declared.Line.{Line}
use Rattle.assembly_rules.specs.declared.Line.TheVariants.{Nothing, One, Two, Three}
use Rattle.assembly_rules.specs.Characters.{Run, run, skip}
use Rattle.assembly_rules.specs.Sums.{deepest}
use Rattle.assembly_rules.specs.Operands.{operand}
use Rattle.assembly_rules.specs.Mnemonics.{byte_name, opcode_of, is_mnemonic}

-- "; begins a comment"
abbrev pub content : List ℕ → List ℕ
content [] = []
content (c ∷ l) = when eqb c (code ";") then [] else c ∷ content l

-- how many brackets are open behind a character
abbrev pub opened : ℕ → ℕ → ℕ
opened n c = when eqb c (code "[") then n + 1 else when eqb c (code "]") then n - 1 else n

-- "33 too deep": where n are open, and then somewhere more than 16
abbrev pub too_deep : ℕ → List ℕ → Bool
too_deep n [] = false
too_deep n (c ∷ l) = when ltb deepest (opened n c) then true else too_deep (opened n c) l

-- an instruction that is its opcode alone
abbrev pub alone_line : ℕ → Shape → Result Line Fault
alone_line m s = option_map_or (λ n. Ok (One n)) (opcode_of m s) (Err NoSuchMode)

-- "no such mode or a value too large for it"
abbrev pub byte_line : ℕ → Shape → ℕ → Result Line Fault
byte_line m s v = when ltb v 256 then option_map_or (λ n. Ok (Two n v)) (opcode_of m s) (Err NoSuchMode) else Err NoSuchMode

abbrev pub word_line : ℕ → Shape → ℕ → Result Line Fault
word_line m s v = option_map_or (λ n. Ok (Three n (v % 256) (v / 256))) (opcode_of m s) (Err NoSuchMode)

-- "the zero-page form where the operation has one"
abbrev pub short_line : ℕ → Shape → Shape → ℕ → Result Line Fault
short_line m short wide v = option_map_or (λ n. Ok (Two n v)) (opcode_of m short) (word_line m wide v)

-- "A value under 256 takes the zero-page form where the operation has one; an address written with four digits alone takes the absolute
-- form."
abbrev pub address_line : ℕ → Shape → Shape → ℕ → Bool → Result Line Fault
address_line m short wide v true = word_line m wide v
address_line m short wide v false = when ltb v 256 then short_line m short wide v else word_line m wide v

-- "Branch operands are target addresses": the offset from the next instruction's address, "branch too far" where it is no signed byte
abbrev pub branch_line : ℕ → ℕ → ℕ → Result Line Fault
branch_line opcode a v =
    let offset = (v + (65536 - sum16 a 2)) % 65536 in
    when ltb offset 128 || leb 65408 offset then Ok (Two opcode (offset % 256)) else Err BranchTooFar

-- a sum alone, at address a
abbrev pub plain_line : ℕ → ℕ → ℕ → Bool → Result Line Fault
plain_line a m v four =
    option_map_or (λ n. branch_line n a v) (opcode_of m shape.Relative) (address_line m shape.Zero shape.Absolute v four)

-- a mnemonic and what stands behind it, at address a
abbrev pub coded : ℕ → ℕ → Operand → Result Line Fault
coded a m operand.Nothing = alone_line m shape.Implied
coded a m operand.Accumulator = alone_line m shape.Accumulator
coded a m (operand.Immediate v) = byte_line m shape.Immediate v
coded a m (operand.Address v four) = plain_line a m v four
coded a m (operand.AddressX v four) = address_line m shape.ZeroX shape.AbsoluteX v four
coded a m (operand.AddressY v four) = address_line m shape.ZeroY shape.AbsoluteY v four
coded a m (operand.IndirectX v) = byte_line m shape.IndirectX v
coded a m (operand.IndirectY v) = byte_line m shape.IndirectY v
coded a m (operand.Indirect v) = word_line m shape.Indirect v

-- a value behind BYTE
abbrev pub byte_value : ℕ → Result Line Fault
byte_value v = when ltb v 256 then Ok (One v) else Err NoSuchMode

-- BYTE and "a sum like any operand"; "BYTE alone is 30"
abbrev pub valued : Operand → Result Line Fault
valued operand.Nothing = Err NotALine
valued (operand.Address v four) = byte_value v
valued o = Err NotALine

-- "a line with nothing else makes no byte"
abbrev pub blank : Operand → Result Line Fault
blank operand.Nothing = Ok Nothing
blank o = Err NotALine

-- A name and an operand. Four characters of a name are looked at: none has more, and no operand begins with a fifth. 1 is no name at all.
abbrev pub named : ℕ → ℕ → Operand → Result Line Fault
named a m o =
    when eqb m 1 then blank o
    else when eqb m byte_name then valued o
    else when is_mnemonic m then coded a m o else Err NotALine

-- what stands behind the name is an operand, or there is no line
abbrev pub with_operand : ℕ → ℕ → Option Operand → Result Line Fault
with_operand a m None = Err NotALine
with_operand a m (Some o) = named a m o

abbrev pub read_line : ℕ → Run → Result Line Fault
read_line a w = with_operand a w.value (operand w.rest)

abbrev pub written : ℕ → List ℕ → Result Line Fault
written a s = read_line a (run 36 4 1 (skip s))

-- "at it 33 first"
unfoldable pub line_of : ℕ → List ℕ → Result Line Fault
line_of a l = when too_deep 0 (content l) then Err TooDeep else written a (content l)
