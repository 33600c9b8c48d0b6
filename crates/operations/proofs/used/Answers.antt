use Rattle.std.proofs.Common.{refl, ◌∙◌}
use Rattle.rules.specs.Record.{record_of}
use Rattle.rules.specs.Operations.{used}
use Rattle.state.proofs.Registers.{holds, makes_p, makes_result, makes_to}
use Rattle.operations.proofs.used.Goals as goal

pub returns-in-Ora : goal.returns-in-Ora
unfolding used record_of
returns-in-Ora c = λ s e.
    rw (c.in-Ora.is, ← (holds s e).a)
    (makes_to 1 refl c.to.ensures s e)

pub returns-in-And : goal.returns-in-And
unfolding used record_of
returns-in-And c = λ s e.
    rw (c.in-And.is, ← (holds s e).a)
    (makes_to 1 refl c.to-in-And.ensures s e)

pub returns-in-Eor : goal.returns-in-Eor
unfolding used record_of
returns-in-Eor c = λ s e.
    rw (c.in-Eor.is, ← (holds s e).a)
    (makes_to 1 refl c.to-in-Eor.ensures s e)

pub returns-in-Adc : goal.returns-in-Adc
unfolding used
returns-in-Adc c =
    λ s e. rw c.in-Adc.is
    (rw (c.flags_of-f.ensures ∙ (holds s e).p, (holds s e).a)
    at (makes_result c.adc.ensures c.to_result.ensures s e))

pub returns-in-Bit : goal.returns-in-Bit
unfolding used
returns-in-Bit c =
    λ s e. rw c.in-Bit.is
    (rw (c.flags_of-f-in-Bit.ensures ∙ (holds s e).p, (holds s e).a)
    at (makes_p c.bit_test.ensures c.set_flags.ensures s e))

pub returns-in-Lda : goal.returns-in-Lda
unfolding used record_of
returns-in-Lda c = λ s e. rw c.in-Lda.is (makes_to 1 refl c.to-in-Lda.ensures s e)

pub returns-in-Cmp : goal.returns-in-Cmp
unfolding used
returns-in-Cmp c = λ s e.
    rw c.in-Cmp.is (rw (holds s e).a at (c.compared.ensures s e))

pub returns-in-Sbc : goal.returns-in-Sbc
unfolding used
returns-in-Sbc c =
    λ s e. rw c.in-Sbc.is
    (rw (c.flags_of-f-in-Sbc.ensures ∙ (holds s e).p, (holds s e).a)
    at (makes_result c.sbc.ensures c.to_result-in-Sbc.ensures s e))

pub returns-in-Ldx : goal.returns-in-Ldx
unfolding used record_of
returns-in-Ldx c = λ s e. rw c.in-Ldx.is (makes_to 2 refl c.to-in-Ldx.ensures s e)

pub returns-in-Ldy : goal.returns-in-Ldy
unfolding used record_of
returns-in-Ldy c = λ s e. rw c.in-Ldy.is (makes_to 3 refl c.to-in-Ldy.ensures s e)

pub returns-in-Cpy : goal.returns-in-Cpy
unfolding used
returns-in-Cpy c = λ s e.
    rw c.in-Cpy.is (rw (holds s e).y at (c.compared-in-Cpy.ensures s e))

pub returns-in-Cpx : goal.returns-in-Cpx
unfolding used
returns-in-Cpx c = λ s e.
    rw c.in-Cpx.is (rw (holds s e).x at (c.compared-in-Cpx.ensures s e))
