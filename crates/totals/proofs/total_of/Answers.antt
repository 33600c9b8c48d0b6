use native.Mathlib.Numerals.{add-one}
use native.Mathlib.Omega.{arith}
use mathlib.Core.Path.{refl}
use lib.ListN.{length}
use Rattle.std.proofs.lemmas.List.{length_push}
use Rattle.std.proofs.lemmas.Slice.Zip.{zip_turn}
use Rattle.rules.specs.Pages.{sum}
use Rattle.totals.proofs.Sums.{sum_more}
use Rattle.totals.proofs.total_of.Goals as goal

pub loop-r-init : goal.loop-r-init
unfolding sum
loop-r-init c = record { halves = refl; high_few = omega arith; low_few = omega arith }

pub loop-r-preserved : goal.loop-r-preserved
loop-r-preserved c =
    let l = c.loop-r in
    let n = length l.yielded in
    let t =
    zip_turn c.args.reads.now c.args.writes.now l.yielded c.into_iter-r-iterator.result l.r-iterator c.next.new.self _ (cc) (cc)
    l.yielded_by _ c.in-Some.is c.next.ensures.steps in
    let small = c.fits-reads n in
    let small' = c.fits-writes n in
    let more = sum_more c.args.reads.now n t.0 in
    let more' = sum_more c.args.writes.now n t.1 in
    rw (length_push l.yielded (c.in-Some.r, c.in-Some.w), t.2 0, t.3 0)
    (record { halves = rw (add-one, more, more') (omega (arith, l.invariant.halves)); high_few = omega arith; low_few = omega arith })
