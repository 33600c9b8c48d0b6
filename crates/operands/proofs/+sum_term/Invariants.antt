use Rattle.std.proofs.Common.{◌+◌, ◌-◌, ◌*◌}
use Rattle.operands.proofs.Summed.{Summing}
use Rattle.operands.proofs.+sum_term.Given as goal

-- a bracket costs depth, and a sum's terms are no deeper than it
abbrev pub decreases-sum : goal.decreases-sum
decreases-sum l = 2 * l.depth + 1

abbrev pub decreases-term : goal.decreases-term
decreases-term l = 2 * l.depth

abbrev pub invariant-sum-loop-k : goal.invariant-sum-loop-k
invariant-sum-loop-k l = Summing l.s l.at l.depth l.f (l._k-end - l._k)
