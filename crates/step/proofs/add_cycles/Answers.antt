use mathlib.Core.Path.{◌≡◌}
use borrow.Author.Rules.{rules}
use Rattle.step.proofs.Closing.{long_of}
use Rattle.rules.specs.Basics.{at}
use Rattle.rules.specs.Record.{long, record_of}
use Rattle.step.proofs.add_cycles.Goals as goal

pub returns : goal.returns
unfolding record_of
returns c = λ s e.
    let r = c.args.state.now in
    let n : c.from_le_bytes-n.result ≡ long (at r 12) (at r 13) (at r 14) (at r 15) = search rules in
    rw (n, e, long_of s.cycles) at (c.set_cycles.ensures s e)
