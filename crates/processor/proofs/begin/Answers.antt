use Rattle.laws.proofs.Goes.{reads, then_read}
use Rattle.rules.specs.Cycles.{execution, ◌>>=◌}
use Rattle.processor.proofs.begin.Goals as goal

pub returns : goal.returns
unfolding ◌>>=◌
returns c =
    λ s i w p f.
    then_read _ (reads _ execution _ _ _ 0 s.bus i _ _ f.opcode w.bank (rw p at c.note_read.ensures))
    (reads _ execution _ _ _ 1 s.bus i _ _ f.low w.bank
    (rw (p, c.second_for.ensures)
    at c.note_read-2.ensures))
