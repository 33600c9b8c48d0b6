use Rattle.processor.proofs.Conditions.{taken_clear, taken_set}
use Rattle.processor.proofs.taken.Goals as goal

pub returns-then-p-flag_of-eq0 : goal.returns-then-p-flag_of-eq0
returns-then-p-flag_of-eq0 c =
    let flag = c.flag_of.ensures in
    rw c.wants.ensures (taken_clear c.args.t c.args.p (rw flag at c.if-p-flag_of-eq0.true))

pub returns : goal.returns
returns c =
    let flag = c.flag_of.ensures in
    rw c.wants-2.ensures (taken_set c.args.t c.args.p (rw flag at c.if-p-flag_of-eq0.false))
