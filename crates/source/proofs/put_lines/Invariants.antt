use Rattle.std.proofs.Common.{length}
use Rattle.assembly_rules.specs.Listing.{text_of}
use Rattle.source.proofs.Laws.{Putting}
use Rattle.source.proofs.put_lines.Given as goal

abbrev pub invariant-loop-rest : goal.invariant-loop-rest
invariant-loop-rest l = Putting (text_of l.start l.bytes) l.initial.text l.text l.rest l.a l.at

abbrev pub decreases-loop-rest : goal.decreases-loop-rest
decreases-loop-rest l = length l.rest
