-- "The 151 opcodes stand in a table of 256 entries; the other 105 are undefined." A line here is eight of them. The table and the rows of
-- Opcodes.antt agree at all 256 (proofs/Table.antt).
use Rattle.std.specs.Prelude.{List, [], ◌∷◌}
use Rattle.rules.specs.declared.Reading.TheVariants.{Ora, And, Eor, Adc, Lda, Cmp, Sbc, Ldx, Ldy, Cpx, Cpy, Bit}
use Rattle.rules.specs.declared.Storing.TheVariants.{Sta, Stx, Sty}
use Rattle.rules.specs.declared.Changing.TheVariants.{Asl, Rol, Lsr, Ror, Dec, Inc}
use Rattle.rules.specs.declared.Condition.TheVariants.{Bpl, Bmi, Bvc, Bvs, Bcc, Bcs, Bne, Beq}
use Rattle.rules.specs.declared.Internal.TheVariants.{Clc, Sec, Sei, Clv, Cld, Sed, Tax, Txa, Tay, Tya, Tsx, Inx, Iny, Dex, Dey, Nop}
use Rattle.rules.specs.declared.Stacking.TheVariants.{Php, Plp, Pha, Pla, Rts, Rti}
use Rattle.rules.specs.declared.Instruction.TheVariants.{Read, Store, Change, Accumulator, Implied, AtStack, Branch, Jump}
use Rattle.rules.specs.declared.Instruction.TheVariants.{JumpIndirect, Jsr, Brk, Txs, Cli}
use Rattle.rules.specs.Opcodes.{Entry, undefined, alone, byte, word, late, ◌·◌, #, z, z_x, z_y, a, a_x, a_y, ⟨z_x⟩, ⟨z⟩Y, ⟨z⟩Yᵢ}

abbrev ∅ : Entry
∅ = undefined

unfoldable pub table : List Entry
table =
    -- 00
    alone Brk ∷ Read Ora · ⟨z_x⟩ ∷ ∅ ∷ ∅ ∷ ∅ ∷ Read Ora · z ∷ Change Asl · z ∷ ∅ ∷
    alone (AtStack Php) ∷ Read Ora · # ∷ alone (Accumulator Asl) ∷ ∅ ∷ ∅ ∷ Read Ora · a ∷ Change Asl · a ∷ ∅ ∷
    -- 10
    byte (Branch Bpl) ∷ Read Ora · ⟨z⟩Y ∷ ∅ ∷ ∅ ∷ ∅ ∷ Read Ora · z_x ∷ Change Asl · z_x ∷ ∅ ∷
    alone (Implied Clc) ∷ Read Ora · a_y ∷ ∅ ∷ ∅ ∷ ∅ ∷ Read Ora · a_x ∷ Change Asl · a_x ∷ ∅ ∷
    -- 20
    late Jsr ∷ Read And · ⟨z_x⟩ ∷ ∅ ∷ ∅ ∷ Read Bit · z ∷ Read And · z ∷ Change Rol · z ∷ ∅ ∷
    alone (AtStack Plp) ∷ Read And · # ∷ alone (Accumulator Rol) ∷ ∅ ∷ Read Bit · a ∷ Read And · a ∷ Change Rol · a ∷ ∅ ∷
    -- 30
    byte (Branch Bmi) ∷ Read And · ⟨z⟩Y ∷ ∅ ∷ ∅ ∷ ∅ ∷ Read And · z_x ∷ Change Rol · z_x ∷ ∅ ∷
    alone (Implied Sec) ∷ Read And · a_y ∷ ∅ ∷ ∅ ∷ ∅ ∷ Read And · a_x ∷ Change Rol · a_x ∷ ∅ ∷
    -- 40
    alone (AtStack Rti) ∷ Read Eor · ⟨z_x⟩ ∷ ∅ ∷ ∅ ∷ ∅ ∷ Read Eor · z ∷ Change Lsr · z ∷ ∅ ∷
    alone (AtStack Pha) ∷ Read Eor · # ∷ alone (Accumulator Lsr) ∷ ∅ ∷ word Jump ∷ Read Eor · a ∷ Change Lsr · a ∷ ∅ ∷
    -- 50
    byte (Branch Bvc) ∷ Read Eor · ⟨z⟩Y ∷ ∅ ∷ ∅ ∷ ∅ ∷ Read Eor · z_x ∷ Change Lsr · z_x ∷ ∅ ∷
    alone Cli ∷ Read Eor · a_y ∷ ∅ ∷ ∅ ∷ ∅ ∷ Read Eor · a_x ∷ Change Lsr · a_x ∷ ∅ ∷
    -- 60
    alone (AtStack Rts) ∷ Read Adc · ⟨z_x⟩ ∷ ∅ ∷ ∅ ∷ ∅ ∷ Read Adc · z ∷ Change Ror · z ∷ ∅ ∷
    alone (AtStack Pla) ∷ Read Adc · # ∷ alone (Accumulator Ror) ∷ ∅ ∷ word JumpIndirect ∷ Read Adc · a ∷ Change Ror · a ∷ ∅ ∷
    -- 70
    byte (Branch Bvs) ∷ Read Adc · ⟨z⟩Y ∷ ∅ ∷ ∅ ∷ ∅ ∷ Read Adc · z_x ∷ Change Ror · z_x ∷ ∅ ∷
    alone (Implied Sei) ∷ Read Adc · a_y ∷ ∅ ∷ ∅ ∷ ∅ ∷ Read Adc · a_x ∷ Change Ror · a_x ∷ ∅ ∷
    -- 80
    ∅ ∷ Store Sta · ⟨z_x⟩ ∷ ∅ ∷ ∅ ∷ Store Sty · z ∷ Store Sta · z ∷ Store Stx · z ∷ ∅ ∷
    alone (Implied Dey) ∷ ∅ ∷ alone (Implied Txa) ∷ ∅ ∷ Store Sty · a ∷ Store Sta · a ∷ Store Stx · a ∷ ∅ ∷
    -- 90
    byte (Branch Bcc) ∷ Store Sta · ⟨z⟩Yᵢ ∷ ∅ ∷ ∅ ∷ Store Sty · z_x ∷ Store Sta · z_x ∷ Store Stx · z_y ∷ ∅ ∷
    alone (Implied Tya) ∷ Store Sta · a_y ∷ alone Txs ∷ ∅ ∷ ∅ ∷ Store Sta · a_x ∷ ∅ ∷ ∅ ∷
    -- A0
    Read Ldy · # ∷ Read Lda · ⟨z_x⟩ ∷ Read Ldx · # ∷ ∅ ∷ Read Ldy · z ∷ Read Lda · z ∷ Read Ldx · z ∷ ∅ ∷
    alone (Implied Tay) ∷ Read Lda · # ∷ alone (Implied Tax) ∷ ∅ ∷ Read Ldy · a ∷ Read Lda · a ∷ Read Ldx · a ∷ ∅ ∷
    -- B0
    byte (Branch Bcs) ∷ Read Lda · ⟨z⟩Yᵢ ∷ ∅ ∷ ∅ ∷ Read Ldy · z_x ∷ Read Lda · z_x ∷ Read Ldx · z_y ∷ ∅ ∷
    alone (Implied Clv) ∷ Read Lda · a_y ∷ alone (Implied Tsx) ∷ ∅ ∷ Read Ldy · a_x ∷ Read Lda · a_x ∷ Read Ldx · a_y ∷ ∅ ∷
    -- C0
    Read Cpy · # ∷ Read Cmp · ⟨z_x⟩ ∷ ∅ ∷ ∅ ∷ Read Cpy · z ∷ Read Cmp · z ∷ Change Dec · z ∷ ∅ ∷
    alone (Implied Iny) ∷ Read Cmp · # ∷ alone (Implied Dex) ∷ ∅ ∷ Read Cpy · a ∷ Read Cmp · a ∷ Change Dec · a ∷ ∅ ∷
    -- D0
    byte (Branch Bne) ∷ Read Cmp · ⟨z⟩Y ∷ ∅ ∷ ∅ ∷ ∅ ∷ Read Cmp · z_x ∷ Change Dec · z_x ∷ ∅ ∷
    alone (Implied Cld) ∷ Read Cmp · a_y ∷ ∅ ∷ ∅ ∷ ∅ ∷ Read Cmp · a_x ∷ Change Dec · a_x ∷ ∅ ∷
    -- E0
    Read Cpx · # ∷ Read Sbc · ⟨z_x⟩ ∷ ∅ ∷ ∅ ∷ Read Cpx · z ∷ Read Sbc · z ∷ Change Inc · z ∷ ∅ ∷
    alone (Implied Inx) ∷ Read Sbc · # ∷ alone (Implied Nop) ∷ ∅ ∷ Read Cpx · a ∷ Read Sbc · a ∷ Change Inc · a ∷ ∅ ∷
    -- F0
    byte (Branch Beq) ∷ Read Sbc · ⟨z⟩Y ∷ ∅ ∷ ∅ ∷ ∅ ∷ Read Sbc · z_x ∷ Change Inc · z_x ∷ ∅ ∷
    alone (Implied Sed) ∷ Read Sbc · a_y ∷ ∅ ∷ ∅ ∷ ∅ ∷ Read Sbc · a_x ∷ Change Inc · a_x ∷ ∅ ∷
    []
