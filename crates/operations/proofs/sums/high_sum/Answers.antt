use Rattle.std.proofs.Common.{le-leb}
use borrow.Author.Tests.{lt-leb}
use Rattle.rules.specs.Arithmetic.{high_sum}
use Rattle.operations.proofs.sums.high_sum.Goals as goal

pub returns-then-t-ge160 : goal.returns-then-t-ge160
unfolding high_sum
returns-then-t-ge160 c = rw (le-leb _ _ c.if-t-ge160.true)

pub returns-else-t-ge160 : goal.returns-else-t-ge160
unfolding high_sum
returns-else-t-ge160 c = rw (lt-leb _ _ c.if-t-ge160.false)
