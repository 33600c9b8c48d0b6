use native.Mathlib.Omega.{arith}
use mathlib.Core.Path.{sym, ◌∙◌}
use Rattle.report.proofs.Laws.{pages_most, counts_shown}
use Rattle.report.proofs.put_counts.Goals as goal

pub put_number-requires : goal.put_number-requires
put_number-requires c =
    let most = pages_most c.args.reads.now c.args.writes.now 256 in
    omega (arith, most, c.put_pages-at.ensures.end, c.told-text)

pub returns-in-Some : goal.returns-in-Some
returns-in-Some c =
    counts_shown c.args.reads.now c.args.writes.now _ _ _ _ _ _ (omega (arith, c.told-text))
    (sym c.in-Some.is ∙ c.total_of.ensures) c.put_pages-at.ensures
    c.put_number.ensures
