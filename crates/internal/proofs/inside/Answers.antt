use mathlib.Core.Path.{refl}
use Rattle.rules.specs.Record.{record_of}
use Rattle.rules.specs.Operations.{inside}
use Rattle.state.proofs.Registers.{holds, makes_to}
use Rattle.internal.proofs.Masks.{masked}
use Rattle.internal.proofs.inside.Goals as goal

pub returns-in-Clc : goal.returns-in-Clc
unfolding inside record_of
returns-in-Clc c = λ s e. rw (c.in-Clc.is, e, ← (masked s.cpu.p).0)

pub returns-in-Sec : goal.returns-in-Sec
unfolding inside record_of
returns-in-Sec c = λ s e. rw (c.in-Sec.is, e, ← (masked s.cpu.p).1.0)

pub returns-in-Tsx : goal.returns-in-Tsx
unfolding inside record_of
returns-in-Tsx c = λ s e.
    rw c.in-Tsx.is (makes_to 2 (holds s e).s c.to.ensures s e)

pub returns-in-Sei : goal.returns-in-Sei
unfolding inside record_of
returns-in-Sei c = λ s e. rw (c.in-Sei.is, e, ← (masked s.cpu.p).1.1.0)

pub returns-in-Tya : goal.returns-in-Tya
unfolding inside record_of
returns-in-Tya c = λ s e.
    rw c.in-Tya.is (makes_to 1 (holds s e).y c.to-in-Tya.ensures s e)

pub returns-in-Clv : goal.returns-in-Clv
unfolding inside record_of
returns-in-Clv c = λ s e. rw (c.in-Clv.is, e, ← (masked s.cpu.p).1.1.1.0)

pub returns-in-Cld : goal.returns-in-Cld
unfolding inside record_of
returns-in-Cld c = λ s e. rw (c.in-Cld.is, e, ← (masked s.cpu.p).1.1.1.1.0)

pub returns-in-Sed : goal.returns-in-Sed
unfolding inside record_of
returns-in-Sed c = λ s e. rw (c.in-Sed.is, e, ← (masked s.cpu.p).1.1.1.1.1.0)

pub returns-in-Txa : goal.returns-in-Txa
unfolding inside record_of
returns-in-Txa c = λ s e.
    rw c.in-Txa.is (makes_to 1 (holds s e).x c.to-in-Txa.ensures s e)

pub returns-in-Tax : goal.returns-in-Tax
unfolding inside record_of
returns-in-Tax c = λ s e.
    rw c.in-Tax.is (makes_to 2 (holds s e).a c.to-in-Tax.ensures s e)

pub returns-in-Dex : goal.returns-in-Dex
unfolding inside record_of
returns-in-Dex c =
    λ s e. rw c.in-Dex.is
    (rw (holds s e).x at (makes_to 2 refl c.to-in-Dex.ensures s e))

pub returns-in-Nop : goal.returns-in-Nop
unfolding inside
returns-in-Nop c = λ s e. rw c.in-Nop.is e

pub returns-in-Dey : goal.returns-in-Dey
unfolding inside record_of
returns-in-Dey c =
    λ s e. rw c.in-Dey.is
    (rw (holds s e).y at (makes_to 3 refl c.to-in-Dey.ensures s e))

pub returns-in-Tay : goal.returns-in-Tay
unfolding inside record_of
returns-in-Tay c = λ s e.
    rw c.in-Tay.is (makes_to 3 (holds s e).a c.to-in-Tay.ensures s e)

pub returns-in-Iny : goal.returns-in-Iny
unfolding inside record_of
returns-in-Iny c =
    λ s e. rw c.in-Iny.is
    (rw (holds s e).y at (makes_to 3 refl c.to-in-Iny.ensures s e))

pub returns-in-Inx : goal.returns-in-Inx
unfolding inside record_of
returns-in-Inx c =
    λ s e. rw c.in-Inx.is
    (rw (holds s e).x at (makes_to 2 refl c.to-in-Inx.ensures s e))
