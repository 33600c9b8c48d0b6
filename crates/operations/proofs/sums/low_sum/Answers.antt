use Rattle.std.proofs.Common.{rules, le-leb}
use borrow.Author.Tests.{lt-leb}
use Rattle.rules.specs.Arithmetic.{low_sum}
use Rattle.operations.proofs.sums.low_sum.Goals as goal

pub returns-then-l-ge10 : goal.returns-then-l-ge10
unfolding low_sum
returns-then-l-ge10 c = (rw (le-leb _ _ c.if-l-ge10.true), search rules)

pub returns-else-l-ge10 : goal.returns-else-l-ge10
unfolding low_sum
returns-else-l-ge10 c = (rw (lt-leb _ _ c.if-l-ge10.false), search rules)
