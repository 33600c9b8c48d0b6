use Rattle.rules.specs.Addressing.{pointer}
use Rattle.processor.proofs.addressing.pointer.Goals as goal

pub returns : goal.returns
unfolding pointer
returns c = λ s h. c.word_at.ensures s h
