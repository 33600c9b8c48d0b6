use Rattle.std.proofs.Common.{ltb, rules}
use Rattle.std.proofs.lemmas.List.Sorted.{IsPartitionPoint-from_clause}
use Rattle.admission.specs.Maps.{mark_of}
use Rattle.admission.proofs.marks.Maps.{parted, found}
use Rattle.admission.proofs.marks.Map.halve.Goals as goal

pub returns : goal.returns
returns c =
    let rs = c.self.inside.records.now in
    let p = c.args.address in
    let e = c.partition_point.ensures in
    let point =
    IsPartitionPoint-from_clause (λ r. ltb (mark_of r).address p) rs c.partition_point.result e.partitioned
    (parted rs p c.self.invariant.ascending) (λ a r f' k. search rules)
    in
    rw c.self.view_is at (found rs p c.partition_point.result e.bound point)
