use Rattle.writes.proofs.Left.{write_register, write_byte, plain_above}
use Rattle.rules.specs.Record.{record_of}
use native.Mathlib.Omega.{arith}
use Rattle.writes.proofs.write.Goals as goal

pub returns-then-w-a : goal.returns-then-w-a
unfolding record_of
returns-then-w-a c = λ s κ h.
    write_byte _ _ _ h (plain_above h c.if-w-a.true) (rw h.bytes at c.put.ensures) c.note_write.ensures

pub returns-then-a-lt2 : goal.returns-then-a-lt2
returns-then-a-lt2 c = λ s κ h.
    write_register _ _ _ h c.if-a-lt2.true c.if-w-a.false
    (c.set_register.ensures s h.bytes)
    c.note_write.ensures

pub returns : goal.returns
unfolding record_of
returns c = λ s κ h.
    write_byte _ _ _ h (λ l. absurd (omega (arith, c.if-a-lt2.false))) (rw h.bytes at c.put-2.ensures)
    c.note_write.ensures
