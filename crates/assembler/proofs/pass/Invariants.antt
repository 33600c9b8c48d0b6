use Rattle.std.proofs.Common.{length}
use Rattle.assembler.proofs.Passed.{Passing}
use Rattle.assembler.proofs.pass.Given as goal

abbrev pub invariant-loop-rest : goal.invariant-loop-rest
invariant-loop-rest l = Passing l.text l.start l.initial.bytes l.writing l.bytes l.rest l.n l.count

abbrev pub decreases-loop-rest : goal.decreases-loop-rest
decreases-loop-rest l = length l.rest
