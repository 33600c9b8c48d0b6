use borrow.Author.Tests.{eq-eqb, ne_eqb}
use Rattle.rules.specs.Record.{record_of}
use Rattle.writes.proofs.set_register.Goals as goal

pub returns-then-a-eq0 : goal.returns-then-a-eq0
unfolding record_of
returns-then-a-eq0 c = λ s e. rw (eq-eqb _ 0 c.if-a-eq0.true, c.kept.ensures, e)

pub returns : goal.returns
unfolding record_of
returns c = λ s e. rw (ne_eqb _ 0 c.if-a-eq0.false, c.kept-2.ensures, e)
