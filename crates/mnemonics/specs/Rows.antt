-- The 56 mnemonics, each with its row: from bit 8 on the set of its shapes, a bit for each by its number; below that a base, of which all
-- its opcodes are offsets by the shape. That they say what the rows of the rules say is one computed test: proofs/Laws.antt.
use Rattle.std.specs.Prelude.{ℕ, ◌+◌, ◌-◌, ◌*◌, ◌/◌, ◌%◌, List, [], ◌∷◌, Option, Some, None, eqb}
use Rattle.rules.specs.Basics.{when◌then◌else◌}
use Rattle.assembly_rules.specs.declared.Shape.{Shape}
use Rattle.assembly_rules.specs.declared.Shape.TheVariants as shape
use Rattle.assembly_rules.specs.Mnemonics.{name}

pub record Known : Type 0 where
  pub named : ℕ
  pub row : ℕ

infix 68 ◌has◌
abbrev pub ◌has◌ : ℕ → ℕ → Known
m has r = record { named = m; row = r }

unfoldable pub known : List Known
known =
    name "ADC" has 0xEDC61 ∷ name "AND" has 0xEDC21 ∷ name "ASL" has 0x61A02 ∷ name "BCC" has 0x10090 ∷
    name "BCS" has 0x100B0 ∷ name "BEQ" has 0x100F0 ∷ name "BIT" has 0x20820 ∷ name "BMI" has 0x10030 ∷
    name "BNE" has 0x100D0 ∷ name "BPL" has 0x10010 ∷ name "BRK" has 0x100 ∷ name "BVC" has 0x10050 ∷
    name "BVS" has 0x10070 ∷ name "CLC" has 0x118 ∷ name "CLD" has 0x1D8 ∷ name "CLI" has 0x158 ∷
    name "CLV" has 0x1B8 ∷ name "CMP" has 0xEDCC1 ∷ name "CPX" has 0x20CE0 ∷ name "CPY" has 0x20CC0 ∷
    name "DEC" has 0x618C2 ∷ name "DEX" has 0x1CA ∷ name "DEY" has 0x188 ∷ name "EOR" has 0xEDC41 ∷
    name "INC" has 0x618E2 ∷ name "INX" has 0x1E8 ∷ name "INY" has 0x1C8 ∷ name "JMP" has 0x120040 ∷
    name "JSR" has 0x20014 ∷ name "LDA" has 0xEDCA1 ∷ name "LDX" has 0xA2CA2 ∷ name "LDY" has 0x61CA0 ∷
    name "LSR" has 0x61A42 ∷ name "NOP" has 0x1EA ∷ name "ORA" has 0xEDC01 ∷ name "PHA" has 0x148 ∷
    name "PHP" has 0x108 ∷ name "PLA" has 0x168 ∷ name "PLP" has 0x128 ∷ name "ROL" has 0x61A22 ∷
    name "ROR" has 0x61A62 ∷ name "RTI" has 0x140 ∷ name "RTS" has 0x160 ∷ name "SBC" has 0xEDCE1 ∷
    name "SEC" has 0x138 ∷ name "SED" has 0x1F8 ∷ name "SEI" has 0x178 ∷ name "STA" has 0xED881 ∷
    name "STX" has 0x22882 ∷ name "STY" has 0x21880 ∷ name "TAX" has 0x1AA ∷ name "TAY" has 0x1A8 ∷
    name "TSX" has 0x1BA ∷ name "TXA" has 0x18A ∷ name "TXS" has 0x19A ∷ name "TYA" has 0x198 ∷
    []

abbrev pub row_among : List Known → ℕ → Option ℕ
row_among [] m = None
row_among (k ∷ ks) m = when eqb m k.named then Some k.row else row_among ks m

-- where the name is a mnemonic
abbrev pub row_of : ℕ → Option ℕ
row_of m = row_among known m

-- the opcode at an offset, where the row's set has the shape of this weight
abbrev pub chosen : ℕ → ℕ → ℕ → Option ℕ
chosen row weight offset = when eqb (row / weight % 2) 1 then Some ((row % 256 + offset) % 256) else None

-- # and a,Y are elsewhere in ORA's group, whose opcodes are odd
abbrev pub opcode_in : ℕ → Shape → Option ℕ
opcode_in row shape.Implied = chosen row 0x100 0x00
opcode_in row shape.Accumulator = chosen row 0x200 0x08
opcode_in row shape.Immediate = chosen row 0x400 (8 * (row % 2))
opcode_in row shape.Zero = chosen row 0x800 0x04
opcode_in row shape.ZeroX = chosen row 0x1000 0x14
opcode_in row shape.ZeroY = chosen row 0x2000 0x14
opcode_in row shape.IndirectX = chosen row 0x4000 0x00
opcode_in row shape.IndirectY = chosen row 0x8000 0x10
opcode_in row shape.Relative = chosen row 0x10000 0x00
opcode_in row shape.Absolute = chosen row 0x20000 0x0C
opcode_in row shape.AbsoluteX = chosen row 0x40000 0x1C
opcode_in row shape.AbsoluteY = chosen row 0x80000 (0x1C - 4 * (row % 2))
opcode_in row shape.Indirect = chosen row 0x100000 0x2C
