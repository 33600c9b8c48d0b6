use Rattle.std.proofs.Common.{refl}
use Rattle.admission.proofs.Records.{unprotected, too_long, its_own}
use Rattle.admission.proofs.rules_at.Goals as goal

pub returns-then-a-c : goal.returns-then-a-c
returns-then-a-c c =
    let a = c.args in
    unprotected a.image.now a.c a.map.now a.i _ c.mark_at-m.ensures c.if-a-c.true

pub returns-then-a-size-gt65536 : goal.returns-then-a-size-gt65536
returns-then-a-size-gt65536 c =
    let a = c.args in
    let byte = rw c.peek-opcode.ensures at c.peek-opcode.type_inv in
    let decoded = rw c.peek-opcode.ensures at c.decode-instruction.ensures in
    too_long a.image.now a.c a.map.now a.i _ c.mark_at-m.ensures c.if-a-c.false _ _ _ _ byte c.peek-low.ensures
    c.peek-high.ensures decoded c.size_of-size.ensures c.if-a-size-gt65536.true

pub returns : goal.returns
returns c =
    let a = c.args in
    let byte = rw c.peek-opcode.ensures at c.peek-opcode.type_inv in
    let decoded = rw c.peek-opcode.ensures at c.decode-instruction.ensures in
    its_own a.image.now a.c a.map.now a.i _ c.mark_at-m.ensures c.if-a-c.false _ _ _ _ byte c.peek-low.ensures
    c.peek-high.ensures decoded c.size_of-size.ensures c.if-a-size-gt65536.false _ _ refl c.rules_for.ensures
