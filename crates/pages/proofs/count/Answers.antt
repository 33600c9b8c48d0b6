use native.Mathlib.Omega.{arith}
use mathlib.Core.Path.{refl, sym, ◌∙◌}
use Rattle.rules.specs.Pages.{page_of, counted, records_in}
use Rattle.laws.proofs.Counts.{counted_sum}
use Rattle.pages.proofs.Counting.{raises, skips, is_write}
use Rattle.pages.proofs.Ends.{byte_at}
use Rattle.pages.proofs.count.Goals.{then-access-eq0, else-access-eq0}
use Rattle.pages.proofs.count.Goals as goal

pub loop-access-init : goal.loop-access-init
unfolding counted
loop-access-init c = record { reads_raised = refl; writes_raised = refl }

pub raise-requires : goal.raise-requires
raise-requires c =
    let k = c.loop-access.access-index in
    let l = c.args.list.now in
    let page = byte_at (records_in l) k 1 l (omega arith) (omega arith) in
    rw (c.as_chunks.ensures.front, page, c.loop-access.invariant.reads_raised)
    (omega (arith, counted_sum 0 c.args.reads.now l k (page_of l k), c.requires.room))

pub raise-requires-else-access-eq0 : goal.raise-requires-else-access-eq0
raise-requires-else-access-eq0 c =
    let k = c.loop-access.access-index in
    let l = c.args.list.now in
    let page = byte_at (records_in l) k 1 l (omega arith) (omega arith) in
    rw (c.as_chunks.ensures.front, page, c.loop-access.invariant.writes_raised)
    (omega (arith, counted_sum 1 c.args.writes.now l k (page_of l k), c.requires.room))

pub loop-access-preserved : goal.loop-access-preserved
loop-access-preserved c =
    let k = c.loop-access.access-index in
    let inv = c.loop-access.invariant in
    let l = c.args.list.now in
    let r = c.args.reads.now in
    let w = c.args.writes.now in
    let page = byte_at (records_in l) k 1 l (omega arith) (omega arith) in
    let kind = byte_at (records_in l) k 4 l (omega arith) (omega arith) in
    elim c.if-access-eq0.branch [
      | then-access-eq0 a ↦
          let zero = rw (c.as_chunks.ensures.front, kind) at a.if-access-eq0.true in
          let one_more = rw (c.as_chunks.ensures.front, page, inv.reads_raised) at a.raise.ensures in
          record {
            reads_raised = a.reads-is ∙ one_more ∙ sym (raises 0 r l k zero);
            writes_raised = a.writes-is ∙ inv.writes_raised ∙ sym (skips 1 w l k (λ e. omega (arith, zero, e)));
          }
      | else-access-eq0 a ↦
          let more = rw (c.as_chunks.ensures.front, kind) at a.if-access-eq0.false in
          let one_more = rw (c.as_chunks.ensures.front, page, inv.writes_raised) at a.raise-else-access-eq0.ensures in
          let one = is_write l (records_in l) k c.requires.records (omega arith) more in
          record {
            reads_raised = a.reads-is ∙ inv.reads_raised ∙ sym (skips 0 r l k more);
            writes_raised = a.writes-is ∙ one_more ∙ sym (raises 1 w l k one);
          }
    ]
