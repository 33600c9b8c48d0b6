-- "The 151 opcodes stand in a table of 256 entries; the other 105 are undefined." Here as the document's rows; Table.antt is the table.
use Rattle.std.specs.Prelude.{ℕ, ◌+◌, Bool, true, false, List, [], ◌∷◌, ◌++◌, eqb}
use Rattle.rules.specs.declared.Mode.{Mode}
use Rattle.rules.specs.declared.Mode.TheVariants.{Immediate, Zero, ZeroX, ZeroY, Absolute, AbsoluteX, AbsoluteY, IndirectX}
use Rattle.rules.specs.declared.Mode.TheVariants.{IndirectY, IndirectBankY}
use Rattle.rules.specs.declared.Reading.TheVariants.{Ora, And, Eor, Adc, Lda, Cmp, Sbc, Ldx, Ldy, Cpx, Cpy, Bit}
use Rattle.rules.specs.declared.Storing.TheVariants.{Sta, Stx, Sty}
use Rattle.rules.specs.declared.Changing.{Changing}
use Rattle.rules.specs.declared.Changing.TheVariants.{Asl, Rol, Lsr, Ror, Dec, Inc}
use Rattle.rules.specs.declared.Condition.TheVariants.{Bpl, Bmi, Bvc, Bvs, Bcc, Bcs, Bne, Beq}
use Rattle.rules.specs.declared.Internal.TheVariants.{Clc, Sec, Sei, Clv, Cld, Sed, Tax, Txa, Tay, Tya, Tsx, Inx, Iny, Dex, Dey, Nop}
use Rattle.rules.specs.declared.Stacking.TheVariants.{Php, Plp, Pha, Pla, Rts, Rti}
use Rattle.rules.specs.declared.Instruction.{Instruction}
use Rattle.rules.specs.declared.Instruction.TheVariants.{Read, Store, Change, Accumulator, Implied, AtStack, Branch, Jump}
use Rattle.rules.specs.declared.Instruction.TheVariants.{JumpIndirect, Jsr, Brk, Txs, Cli, Undefined}
use Rattle.rules.specs.Basics.{when◌then◌else◌}

-- What an opcode stands for: nothing, or an instruction that is made of no operand, of a byte, of an address (low byte first), or, late, of
-- the low byte of an address whose high byte is read by the instruction itself.
pub data Entry : Type 0 where
  undefined : Entry
  alone : Instruction → Entry
  byte late : (ℕ → Instruction) → Entry
  word : (ℕ → ℕ → Instruction) → Entry

-- how many bytes an instruction is long
abbrev pub size_of : Entry → ℕ
size_of undefined = 1
size_of (alone i) = 1
size_of (byte f) = 2
size_of (word f) = 3
size_of (late f) = 3

abbrev pub is_defined : Entry → Bool
is_defined undefined = false
is_defined (alone i) = true
is_defined (byte f) = true
is_defined (word f) = true
is_defined (late f) = true

-- the instruction that an entry makes of the two bytes after the opcode
abbrev pub instruction_of : Entry → ℕ → ℕ → Instruction
instruction_of undefined low high = Undefined
instruction_of (alone i) low high = i
instruction_of (byte f) low high = f low
instruction_of (word f) low high = f low high
instruction_of (late f) low high = f low

-- The modes as the document writes them: #, z, a, (z,X), .., by the length of their operand. "Only the last one or two accesses of B1 and
-- 91 (after the pointer) use the indirect bank": ⟨z⟩Yᵢ is their (z),Y.
pub data Form : Type 0 where
  one : (ℕ → Mode) → Form
  two : (ℕ → ℕ → Mode) → Form

abbrev pub # : Form
# = one Immediate

abbrev pub z : Form
z = one Zero

abbrev pub z_x : Form
z_x = one ZeroX

abbrev pub z_y : Form
z_y = one ZeroY

abbrev pub a : Form
a = two Absolute

abbrev pub a_x : Form
a_x = two AbsoluteX

abbrev pub a_y : Form
a_y = two AbsoluteY

abbrev pub ⟨z_x⟩ : Form
⟨z_x⟩ = one IndirectX

abbrev pub ⟨z⟩Y : Form
⟨z⟩Y = one IndirectY

abbrev pub ⟨z⟩Yᵢ : Form
⟨z⟩Yᵢ = one IndirectBankY

infix 69 ◌·◌
-- an operation with a mode
abbrev pub ◌·◌ : (Mode → Instruction) → Form → Entry
op · (one mode) = byte (λ v. op (mode v))
op · (two mode) = word (λ low high. op (mode low high))

pub record Row : Type 0 where
  pub opcode : ℕ
  pub entry : Entry

infix 68 ◌is◌
abbrev pub ◌is◌ : ℕ → Entry → Row
n is e = record { opcode = n; entry = e }

-- "plus (z,X) 01, z 05, # 09 (not STA), a 0D, (z),Y 11, z,X 15, a,Y 19, a,X 1D"; y is the (z),Y
abbrev pub seven : ℕ → Form → (Mode → Instruction) → List Row
seven n y op =
    (n + 0x01) is op · ⟨z_x⟩ ∷ (n + 0x05) is op · z ∷ (n + 0x0D) is op · a ∷ (n + 0x11) is op · y ∷ (n + 0x15) is op · z_x ∷
    (n + 0x19) is op · a_y ∷ (n + 0x1D) is op · a_x ∷ []

abbrev pub eight : ℕ → Form → (Mode → Instruction) → List Row
eight n y op = (n + 0x09) is op · # ∷ seven n y op

-- "plus z 06, A 0A, a 0E, z,X 16, a,X 1E"
abbrev pub shift : ℕ → Changing → List Row
shift n op =
    (n + 0x06) is Change op · z ∷ (n + 0x0A) is alone (Accumulator op) ∷ (n + 0x0E) is Change op · a ∷ (n + 0x16) is Change op · z_x ∷
    (n + 0x1E) is Change op · a_x ∷ []

abbrev pub others : List Row
others =
    -- DEC; INC (z; a; z,X; a,X)
    0xC6 is Change Dec · z ∷ 0xCE is Change Dec · a ∷ 0xD6 is Change Dec · z_x ∷ 0xDE is Change Dec · a_x ∷
    0xE6 is Change Inc · z ∷ 0xEE is Change Inc · a ∷ 0xF6 is Change Inc · z_x ∷ 0xFE is Change Inc · a_x ∷
    -- LDX (#, z, a; z,Y; a,Y), LDY (X instead)
    0xA2 is Read Ldx · # ∷ 0xA6 is Read Ldx · z ∷ 0xAE is Read Ldx · a ∷ 0xB6 is Read Ldx · z_y ∷ 0xBE is Read Ldx · a_y ∷
    0xA0 is Read Ldy · # ∷ 0xA4 is Read Ldy · z ∷ 0xAC is Read Ldy · a ∷ 0xB4 is Read Ldy · z_x ∷ 0xBC is Read Ldy · a_x ∷
    -- STX (z, a; z,Y), STY (z, a; z,X)
    0x86 is Store Stx · z ∷ 0x8E is Store Stx · a ∷ 0x96 is Store Stx · z_y ∷
    0x84 is Store Sty · z ∷ 0x8C is Store Sty · a ∷ 0x94 is Store Sty · z_x ∷
    -- CPX, CPY (#, z, a); BIT (z, a)
    0xE0 is Read Cpx · # ∷ 0xE4 is Read Cpx · z ∷ 0xEC is Read Cpx · a ∷
    0xC0 is Read Cpy · # ∷ 0xC4 is Read Cpy · z ∷ 0xCC is Read Cpy · a ∷ 0x24 is Read Bit · z ∷ 0x2C is Read Bit · a ∷
    -- BPL BMI BVC BVS BCC BCS BNE BEQ
    0x10 is byte (Branch Bpl) ∷ 0x30 is byte (Branch Bmi) ∷ 0x50 is byte (Branch Bvc) ∷ 0x70 is byte (Branch Bvs) ∷
    0x90 is byte (Branch Bcc) ∷ 0xB0 is byte (Branch Bcs) ∷ 0xD0 is byte (Branch Bne) ∷ 0xF0 is byte (Branch Beq) ∷
    -- JMP a, JMP (a), JSR, RTS, RTI, BRK, NOP
    0x4C is word Jump ∷ 0x6C is word JumpIndirect ∷ 0x20 is late Jsr ∷ 0x60 is alone (AtStack Rts) ∷ 0x40 is alone (AtStack Rti) ∷
    0x00 is alone Brk ∷ 0xEA is alone (Implied Nop) ∷
    -- PHP PLP PHA PLA
    0x08 is alone (AtStack Php) ∷ 0x28 is alone (AtStack Plp) ∷ 0x48 is alone (AtStack Pha) ∷ 0x68 is alone (AtStack Pla) ∷
    -- CLC SEC CLI SEI CLV CLD SED
    0x18 is alone (Implied Clc) ∷ 0x38 is alone (Implied Sec) ∷ 0x58 is alone Cli ∷ 0x78 is alone (Implied Sei) ∷
    0xB8 is alone (Implied Clv) ∷ 0xD8 is alone (Implied Cld) ∷ 0xF8 is alone (Implied Sed) ∷
    -- TAX TXA TAY TYA TSX TXS
    0xAA is alone (Implied Tax) ∷ 0x8A is alone (Implied Txa) ∷ 0xA8 is alone (Implied Tay) ∷ 0x98 is alone (Implied Tya) ∷
    0xBA is alone (Implied Tsx) ∷ 0x9A is alone Txs ∷
    -- INX INY DEX DEY
    0xE8 is alone (Implied Inx) ∷ 0xC8 is alone (Implied Iny) ∷ 0xCA is alone (Implied Dex) ∷ 0x88 is alone (Implied Dey) ∷ []

abbrev pub rows : List Row
rows =
    -- ORA 00, AND 20, EOR 40, ADC 60, STA 80, LDA A0, CMP C0, SBC E0
    eight 0x00 ⟨z⟩Y (Read Ora) ++ eight 0x20 ⟨z⟩Y (Read And) ++ eight 0x40 ⟨z⟩Y (Read Eor) ++ eight 0x60 ⟨z⟩Y (Read Adc) ++
    seven 0x80 ⟨z⟩Yᵢ (Store Sta) ++ eight 0xA0 ⟨z⟩Yᵢ (Read Lda) ++ eight 0xC0 ⟨z⟩Y (Read Cmp) ++ eight 0xE0 ⟨z⟩Y (Read Sbc) ++
    -- ASL 00, ROL 20, LSR 40, ROR 60
    shift 0x00 Asl ++ shift 0x20 Rol ++ shift 0x40 Lsr ++ shift 0x60 Ror ++ others

-- the entry of opcode n among some rows
abbrev pub among : List Row → ℕ → Entry
among [] n = undefined
among (r ∷ rs) n = when eqb n r.opcode then r.entry else among rs n

unfoldable pub decode : ℕ → Entry
decode n = among rows n
