use Rattle.laws.proofs.Goes.{then_read, ended}
use Rattle.rules.specs.Addressing.{indexed}
use Rattle.processor.proofs.addressing.indexed.Goals as goal

pub returns : goal.returns
unfolding indexed
returns c = λ s κ h.
    let first = rw c.old_page.ensures at (c.read.ensures s κ h) in
    then_read _ first ended
