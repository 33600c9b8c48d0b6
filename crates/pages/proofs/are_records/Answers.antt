use native.Mathlib.Numerals.{add-one}
use native.Mathlib.Omega.{arith}
use Rattle.rules.specs.Basics.{all}
use Rattle.rules.specs.Pages.{is_record, records_in}
use Rattle.pages.proofs.Ends.{and_swap, together, record_at}
use Rattle.pages.proofs.are_records.Goals as goal

pub loop-access-preserved : goal.loop-access-preserved
loop-access-preserved c =
    let l = c.loop-access in
    let k = l.access-index in
    let list = c.args.list.now in
    let here = record_at (records_in list) k list (omega arith) in
    rw (add-one k, together l.ends c.end_of-ends.result, c.end_of-ends.ensures, c.as_chunks.ensures.front, here, ← l.invariant)
    (and_swap (is_record list k) (all k (is_record list)))
