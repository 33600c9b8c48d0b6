use Rattle.std.proofs.Common.{rules, le-ltb, lt-ltb}
use Rattle.rules.specs.Arithmetic.{low_difference}
use Rattle.operations.proofs.sums.low_difference.Goals as goal

pub returns-then-l-lt16 : goal.returns-then-l-lt16
unfolding low_difference
returns-then-l-lt16 c = (rw (lt-ltb _ _ c.if-l-lt16.true), search rules)

pub returns-else-l-lt16 : goal.returns-else-l-lt16
unfolding low_difference
returns-else-l-lt16 c = (rw (le-ltb _ _ c.if-l-lt16.false), search rules)
