use Rattle.std.proofs.Common.{◌≡◌, ◌+◌, ◌≤◌, length}
use Rattle.assembly_rules.specs.Listing.{text_of}
use Rattle.source.proofs.measure.Given as goal

abbrev pub invariant-loop-rest : goal.invariant-loop-rest
invariant-loop-rest l = record {
  fits : l.count ≤ l.room;
  counted : l.count + length (text_of 0 l.rest) ≡ length (text_of 0 l.bytes);
}

abbrev pub decreases-loop-rest : goal.decreases-loop-rest
decreases-loop-rest l = length l.rest
