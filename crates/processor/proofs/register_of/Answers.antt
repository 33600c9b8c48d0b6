use Rattle.rules.specs.Record.{record_of}
use Rattle.processor.proofs.register_of.Goals as goal

pub returns-in-Sta : goal.returns-in-Sta
unfolding record_of
returns-in-Sta c = λ s e. rw (c.in-Sta.is, e)

pub returns-in-Stx : goal.returns-in-Stx
unfolding record_of
returns-in-Stx c = λ s e. rw (c.in-Stx.is, e)

pub returns-in-Sty : goal.returns-in-Sty
unfolding record_of
returns-in-Sty c = λ s e. rw (c.in-Sty.is, e)
