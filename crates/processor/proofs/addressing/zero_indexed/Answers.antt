use Rattle.laws.proofs.Goes.{ended, then_read}
use Rattle.rules.specs.Cycles.{execution, ◌>>=◌}
use Rattle.rules.specs.Addressing.{zero_indexed}
use Rattle.processor.proofs.Fetches.{reaches, two, stands_past}
use Rattle.processor.proofs.addressing.zero_indexed.Goals as goal

pub returns : goal.returns
unfolding zero_indexed ◌>>=◌
returns c =
    λ s h p.
    let e = c.past.ensures s h.bytes p in
    let first = c.read.ensures _ execution (stands_past 2 h e) in
    reaches 2 (two e) (then_read _ first ended)
