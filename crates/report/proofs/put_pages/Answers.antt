use native.Mathlib.Omega.{arith}
use mathlib.Core.Path.{refl}
use lib.ListN.{length}
use lib.Seq.{length-sets}
use Rattle.std.proofs.lemmas.List.{length_push}
use Rattle.rules.specs.Text.{each}
use Rattle.rules.specs.Pages.{traffic_line}
use Rattle.characters.proofs.Laws.{puts_each}
use Rattle.report.proofs.Laws.{pages_most, page_turn}
use Rattle.report.proofs.put_pages.Goals as goal

pub loop-page-init : goal.loop-page-init
unfolding each
loop-page-init c = record { end = refl; text = refl }

pub put_traffic-at-requires : goal.put_traffic-at-requires
put_traffic-at-requires c =
    let l = c.loop-page in
    let turn =
    page_turn c.args.reads.now c.args.writes.now l.yielded c.into_iter-page-iterator.result l.page-iterator c.next.new.self _ _ (cc) (cc)
    (cc) l.yielded_by c.in-Some.is c.next.ensures.steps in
    let most = pages_most c.args.reads.now c.args.writes.now (length l.yielded) in
    rw (l.invariant.text, length-sets) (omega (arith, most, turn.0, l.invariant.end, c.told-text, c.told-reads))

pub loop-page-preserved : goal.loop-page-preserved
loop-page-preserved c =
    let l = c.loop-page in
    let turn =
    page_turn c.args.reads.now c.args.writes.now l.yielded c.into_iter-page-iterator.result l.page-iterator c.next.new.self _ _ (cc) (cc)
    (cc) l.yielded_by c.in-Some.is c.next.ensures.steps in
    let line = rw (turn.1, turn.2, turn.3) at c.put_traffic-at.ensures in
    rw length_push (puts_each (traffic_line c.args.reads.now c.args.writes.now) (length l.yielded) l.invariant line)
