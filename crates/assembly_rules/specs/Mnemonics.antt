-- "the 56 mnemonics, modes written as in the data sheets": the name and the shape of each instruction of document 01, and the opcode that
-- has them.
use Rattle.std.specs.Prelude.{ℕ, ◌+◌, ◌*◌, Bool, false, ◌&&◌, ◌||◌, List, [], ◌∷◌, Option, Some, None, eqb}
use Prim.Native.Char.{code}
use Prim.Native.String.{String, [] as none, ◌∷◌ as ◌then◌}
use Rattle.rules.specs.declared.Mode.{Mode}
use Rattle.rules.specs.declared.Mode.TheVariants as mode
use Rattle.rules.specs.declared.Reading.{Reading}
use Rattle.rules.specs.declared.Reading.TheVariants.{Ora, And, Eor, Adc, Lda, Cmp, Sbc, Ldx, Ldy, Cpx, Cpy, Bit}
use Rattle.rules.specs.declared.Storing.{Storing}
use Rattle.rules.specs.declared.Storing.TheVariants.{Sta, Stx, Sty}
use Rattle.rules.specs.declared.Changing.{Changing}
use Rattle.rules.specs.declared.Changing.TheVariants.{Asl, Rol, Lsr, Ror, Dec, Inc}
use Rattle.rules.specs.declared.Condition.{Condition}
use Rattle.rules.specs.declared.Condition.TheVariants.{Bpl, Bmi, Bvc, Bvs, Bcc, Bcs, Bne, Beq}
use Rattle.rules.specs.declared.Internal.{Internal}
use Rattle.rules.specs.declared.Internal.TheVariants.{Clc, Sec, Sei, Clv, Cld, Sed, Tax, Txa, Tay, Tya, Tsx, Inx, Iny, Dex, Dey, Nop}
use Rattle.rules.specs.declared.Stacking.{Stacking}
use Rattle.rules.specs.declared.Stacking.TheVariants.{Php, Plp, Pha, Pla, Rts, Rti}
use Rattle.rules.specs.declared.Instruction.{Instruction}
use Rattle.rules.specs.declared.Instruction.TheVariants.{Read, Store, Change, Accumulator, Implied, AtStack, Branch, Jump}
use Rattle.rules.specs.declared.Instruction.TheVariants.{JumpIndirect, Jsr, Brk, Txs, Cli, Undefined}
use Rattle.rules.specs.Basics.{when◌then◌else◌}
use Rattle.rules.specs.Opcodes.{Row, rows, instruction_of}
use Rattle.assembly_rules.specs.declared.Shape.{Shape}
use Rattle.assembly_rules.specs.declared.Shape.TheVariants as shape
use Rattle.assembly_rules.specs.Characters.{place}

-- A name as a number: its letters' places as digits of base 36, behind a 1, so that names of different lengths differ.
abbrev name_from : ℕ → String → ℕ
name_from n none = n
name_from n (c then s) = name_from (n * 36 + place (code c)) s

abbrev pub name : String → ℕ
name s = name_from 1 s

abbrev pub reading : Reading → ℕ
reading Ora = name "ORA"
reading And = name "AND"
reading Eor = name "EOR"
reading Adc = name "ADC"
reading Bit = name "BIT"
reading Lda = name "LDA"
reading Cmp = name "CMP"
reading Sbc = name "SBC"
reading Ldx = name "LDX"
reading Ldy = name "LDY"
reading Cpy = name "CPY"
reading Cpx = name "CPX"

abbrev pub storing : Storing → ℕ
storing Sta = name "STA"
storing Stx = name "STX"
storing Sty = name "STY"

abbrev pub changing : Changing → ℕ
changing Asl = name "ASL"
changing Rol = name "ROL"
changing Lsr = name "LSR"
changing Ror = name "ROR"
changing Dec = name "DEC"
changing Inc = name "INC"

abbrev pub condition : Condition → ℕ
condition Bpl = name "BPL"
condition Bmi = name "BMI"
condition Bvc = name "BVC"
condition Bvs = name "BVS"
condition Bcc = name "BCC"
condition Bcs = name "BCS"
condition Bne = name "BNE"
condition Beq = name "BEQ"

abbrev pub internal : Internal → ℕ
internal Clc = name "CLC"
internal Sec = name "SEC"
internal Tsx = name "TSX"
internal Sei = name "SEI"
internal Tya = name "TYA"
internal Clv = name "CLV"
internal Cld = name "CLD"
internal Sed = name "SED"
internal Txa = name "TXA"
internal Tax = name "TAX"
internal Dex = name "DEX"
internal Nop = name "NOP"
internal Dey = name "DEY"
internal Tay = name "TAY"
internal Iny = name "INY"
internal Inx = name "INX"

abbrev pub stacking : Stacking → ℕ
stacking Php = name "PHP"
stacking Plp = name "PLP"
stacking Pha = name "PHA"
stacking Pla = name "PLA"
stacking Rti = name "RTI"
stacking Rts = name "RTS"

-- no mnemonic, but "a line of BYTE and its value"
abbrev pub byte_name : ℕ
byte_name = name "BYTE"

-- no row is undefined; 0 is no name
abbrev pub name_of : Instruction → ℕ
name_of (Read o m) = reading o
name_of (Store o m) = storing o
name_of (Change o m) = changing o
name_of (Accumulator o) = changing o
name_of (Implied o) = internal o
name_of (AtStack o) = stacking o
name_of (Branch t v) = condition t
name_of (Jump low high) = name "JMP"
name_of (JumpIndirect low high) = name "JMP"
name_of (Jsr low) = name "JSR"
name_of Brk = name "BRK"
name_of Txs = name "TXS"
name_of Cli = name "CLI"
name_of Undefined = 0

abbrev pub mode_shape : Mode → Shape
mode_shape (mode.IndirectX v) = shape.IndirectX
mode_shape (mode.Zero v) = shape.Zero
mode_shape (mode.Immediate v) = shape.Immediate
mode_shape (mode.Absolute low high) = shape.Absolute
mode_shape (mode.IndirectY v) = shape.IndirectY
mode_shape (mode.ZeroX v) = shape.ZeroX
mode_shape (mode.AbsoluteY low high) = shape.AbsoluteY
mode_shape (mode.AbsoluteX low high) = shape.AbsoluteX
mode_shape (mode.ZeroY v) = shape.ZeroY
mode_shape (mode.IndirectBankY v) = shape.IndirectY

abbrev pub shape_of : Instruction → Shape
shape_of (Read o m) = mode_shape m
shape_of (Store o m) = mode_shape m
shape_of (Change o m) = mode_shape m
shape_of (Accumulator o) = shape.Accumulator
shape_of (Implied o) = shape.Implied
shape_of (AtStack o) = shape.Implied
shape_of (Branch t v) = shape.Relative
shape_of (Jump low high) = shape.Absolute
shape_of (JumpIndirect low high) = shape.Indirect
shape_of (Jsr low) = shape.Absolute
shape_of Brk = shape.Implied
shape_of Txs = shape.Implied
shape_of Cli = shape.Implied
shape_of Undefined = shape.Implied

-- shapes as numbers, to compare them
abbrev pub numbered : Shape → ℕ
numbered shape.Implied = 0
numbered shape.Accumulator = 1
numbered shape.Immediate = 2
numbered shape.Zero = 3
numbered shape.ZeroX = 4
numbered shape.ZeroY = 5
numbered shape.IndirectX = 6
numbered shape.IndirectY = 7
numbered shape.Relative = 8
numbered shape.Absolute = 9
numbered shape.AbsoluteX = 10
numbered shape.AbsoluteY = 11
numbered shape.Indirect = 12

-- the instruction of a row, whatever its operand
abbrev pub row_of : Row → Instruction
row_of r = instruction_of r.entry 0 0

-- the opcode of this name and shape among some rows, where one has them
abbrev pub opcode_among : List Row → ℕ → ℕ → Option ℕ
opcode_among [] m s = None
opcode_among (r ∷ rs) m s =
    when eqb (name_of (row_of r)) m && eqb (numbered (shape_of (row_of r))) s then Some r.opcode else opcode_among rs m s

unfoldable pub opcode_of : ℕ → Shape → Option ℕ
opcode_of m s = opcode_among rows m (numbered s)

-- a mnemonic is the name of a row
abbrev pub named_among : List Row → ℕ → Bool
named_among [] m = false
named_among (r ∷ rs) m = eqb (name_of (row_of r)) m || named_among rs m

unfoldable pub is_mnemonic : ℕ → Bool
is_mnemonic m = named_among rows m
