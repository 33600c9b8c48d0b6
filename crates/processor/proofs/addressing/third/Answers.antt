use Rattle.rules.specs.Cycles.{execution, ◌>>=◌}
use Rattle.laws.proofs.Goes.{reads, then_read, ended}
use Rattle.processor.proofs.addressing.third.Goals as goal

pub returns : goal.returns
unfolding ◌>>=◌
returns c =
    λ s i h.
    let p = h.here in
    let noted = rw p at c.note_read.ensures in
    record {
      bytes = c.past.ensures s h.stands.bytes p;
      goes = then_read _ (reads _ execution _ _ _ 2 s.bus i _ _ h.told h.stands.wired.bank noted) ended;
    }
