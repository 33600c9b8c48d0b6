use Rattle.std.proofs.Common.{le-ltb, lt-ltb}
use Rattle.rules.specs.Arithmetic.{high_difference}
use Rattle.operations.proofs.sums.high_difference.Goals as goal

pub returns-then-t-lt256 : goal.returns-then-t-lt256
unfolding high_difference
returns-then-t-lt256 c = rw (lt-ltb _ _ c.if-t-lt256.true)

pub returns : goal.returns
unfolding high_difference
returns c = rw (le-ltb _ _ c.if-t-lt256.false)
