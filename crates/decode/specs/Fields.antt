-- What the opcode's three fields say, aaabbbcc: src/lib.rt shows the pattern, and has a function for each definition here. That they say
-- what the table of the rules says, at all 256 numbers, is one computed test: proofs/Decodes.antt.
use Rattle.std.specs.Prelude.{ℕ, ◌-◌, ◌/◌, ◌%◌, List, [], ◌∷◌, eqb, ltb, get_or}
use Rattle.rules.specs.declared.Mode.{Mode}
use Rattle.rules.specs.declared.Mode.TheVariants.{Immediate, Zero, ZeroX, ZeroY, Absolute, AbsoluteX, AbsoluteY, IndirectX, IndirectY}
use Rattle.rules.specs.declared.Mode.TheVariants.{IndirectBankY}
use Rattle.rules.specs.declared.Reading.{Reading}
use Rattle.rules.specs.declared.Reading.TheVariants.{Ora, And, Eor, Adc, Lda, Cmp, Sbc, Ldx, Ldy, Cpx, Cpy, Bit}
use Rattle.rules.specs.declared.Storing.TheVariants.{Sta, Stx, Sty}
use Rattle.rules.specs.declared.Changing.{Changing}
use Rattle.rules.specs.declared.Changing.TheVariants.{Asl, Rol, Lsr, Ror, Dec, Inc}
use Rattle.rules.specs.declared.Condition.{Condition}
use Rattle.rules.specs.declared.Condition.TheVariants.{Bpl, Bmi, Bvc, Bvs, Bcc, Bcs, Bne, Beq}
use Rattle.rules.specs.declared.Internal.TheVariants.{Clc, Sec, Sei, Clv, Cld, Sed, Tax, Txa, Tay, Tya, Tsx, Inx, Iny, Dex, Dey, Nop}
use Rattle.rules.specs.declared.Stacking.TheVariants.{Php, Plp, Pha, Pla, Rts, Rti}
use Rattle.rules.specs.declared.Instruction.{Instruction}
use Rattle.rules.specs.declared.Instruction.TheVariants.{Read, Store, Change, Accumulator, Implied, AtStack, Branch, Jump, JumpIndirect}
use Rattle.rules.specs.declared.Instruction.TheVariants.{Jsr, Brk, Txs, Cli, Undefined}
use Rattle.rules.specs.Basics.{when◌then◌else◌}

-- Columns and rows by their number. What stands last is taken for every greater number.

abbrev pub modes : ℕ → ℕ → List Mode
modes low high =
    IndirectX low ∷ Zero low ∷ Immediate low ∷ Absolute low high ∷ IndirectY low ∷ ZeroX low ∷ AbsoluteY low high ∷ AbsoluteX low high ∷
    ZeroY low ∷ []

abbrev pub mode_of : ℕ → ℕ → ℕ → Mode
mode_of n low high = get_or (modes low high) n (IndirectBankY low)

abbrev pub readings : List Reading
readings = Ora ∷ And ∷ Eor ∷ Adc ∷ Bit ∷ Lda ∷ Cmp ∷ []

abbrev pub reading_of : ℕ → Reading
reading_of a = get_or readings a Sbc

abbrev pub changings : List Changing
changings = Asl ∷ Rol ∷ Lsr ∷ Ror ∷ Dec ∷ []

abbrev pub changing_of : ℕ → Changing
changing_of n = get_or changings n Inc

abbrev pub conditions : List Condition
conditions = Bpl ∷ Bmi ∷ Bvc ∷ Bvs ∷ Bcc ∷ Bcs ∷ Bne ∷ []

abbrev pub condition_of : ℕ → Condition
condition_of a = get_or conditions a Beq

abbrev pub rows08 : List Instruction
rows08 = AtStack Php ∷ AtStack Plp ∷ AtStack Pha ∷ AtStack Pla ∷ Implied Dey ∷ Implied Tay ∷ Implied Iny ∷ []

abbrev pub at08 : ℕ → Instruction
at08 a = get_or rows08 a (Implied Inx)

abbrev pub rows0a : List Instruction
rows0a = Accumulator Asl ∷ Accumulator Rol ∷ Accumulator Lsr ∷ Accumulator Ror ∷ Implied Txa ∷ Implied Tax ∷ Implied Dex ∷ []

abbrev pub at0a : ℕ → Instruction
at0a a = get_or rows0a a (Implied Nop)

abbrev pub rows18 : List Instruction
rows18 = Implied Clc ∷ Implied Sec ∷ Cli ∷ Implied Sei ∷ Implied Tya ∷ Implied Clv ∷ Implied Cld ∷ []

abbrev pub at18 : ℕ → Instruction
at18 a = get_or rows18 a (Implied Sed)

abbrev pub at1a : ℕ → Instruction
at1a a = when eqb a 4 then Txs else when eqb a 5 then Implied Tsx else Undefined

-- The column in `modes`.

abbrev pub bank_column : ℕ → ℕ → ℕ
bank_column a b = when eqb (a / 2) 2 then (when eqb b 4 then 9 else b) else b

abbrev pub index_column : ℕ → ℕ → ℕ → ℕ
index_column a b x =
    when eqb b 0 then 2
    else when eqb x 1 then (when eqb (a / 2) 2 then (when eqb b 5 then 8 else when eqb b 7 then 6 else b) else b)
    else b

unfoldable pub group_one : ℕ → ℕ → Mode → Instruction
group_one a b m = when eqb a 4 then (when eqb b 2 then Undefined else Store Sta m) else Read (reading_of a) m

abbrev pub change_row : ℕ → ℕ
change_row a = when ltb a 4 then a else a - 2

-- Here and below x is c's upper bit: 1 in group 2, 0 in group 0.

unfoldable pub with_mode : ℕ → ℕ → ℕ → Mode → Instruction
with_mode a b x m =
    when eqb a 4 then (when eqb b 0 then Undefined else when eqb b 7 then Undefined else when eqb x 1 then Store Stx m else Store Sty m)
    else when eqb a 5 then (when eqb x 1 then Read Ldx m else Read Ldy m)
    else when eqb x 1 then (when eqb b 0 then Undefined else Change (changing_of (change_row a)) m)
    else when ltb 3 b then Undefined
    else Read (when eqb a 6 then Cpy else Cpx) m

unfoldable pub control : ℕ → ℕ → ℕ → ℕ → Instruction
control a b low high =
    when eqb b 0 then (when eqb a 0 then Brk else when eqb a 1 then Jsr low else when eqb a 2 then AtStack Rti else AtStack Rts)
    else when eqb a 0 then Undefined
    else when ltb 3 b then Undefined
    else when eqb a 1 then Read Bit (mode_of b low high)
    else when eqb b 1 then Undefined
    else when eqb a 2 then Jump low high
    else JumpIndirect low high

unfoldable pub even_group : ℕ → ℕ → ℕ → ℕ → ℕ → Instruction
even_group a b x low high =
    when eqb b 4 then (when eqb x 1 then Undefined else Branch (condition_of a) low)
    else when eqb b 2 then (when eqb x 1 then at0a a else at08 a)
    else when eqb b 6 then (when eqb x 1 then at1a a else at18 a)
    else when eqb x 1 then with_mode a b x (mode_of (index_column a b x) low high)
    else when ltb a 4 then control a b low high
    else with_mode a b x (mode_of (index_column a b x) low high)

unfoldable pub by_fields : ℕ → ℕ → ℕ → Instruction
by_fields n low high =
    let a = n / 32 in
    let b = n / 4 % 8 in
    let x = n / 2 % 2 in
    when eqb (n % 2) 1 then (when eqb x 1 then Undefined else group_one a b (mode_of (bank_column a b) low high))
    else even_group a b x low high
