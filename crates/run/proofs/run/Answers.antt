use Rattle.run.proofs.Firsts.{odd, even, run_unfit}
use Rattle.rules.specs.Answers.{run_words}
use Rattle.rules.specs.Step.{worded}
use Rattle.checks.proofs.Fits.{fits}
use mathlib.Core.Path.{sym, ap, ◌∙◌}
use Rattle.run.proofs.run.Goals as goal

pub returns-in-Err : goal.returns-in-Err
returns-in-Err c =
    let a = c.args in
    let unfit = sym c.in-Err.is ∙ c.fit.ensures in
    rw c.refused.ensures
    (ap (worded run_words) (run_unfit a.state.now a.image.now a.accesses.now a.script.now _ unfit))

pub returns-then-script-ne0 : goal.returns-then-script-ne0
returns-then-script-ne0 c =
    let a = c.args in
    let f = fits _ _ (sym c.in_default.is ∙ c.fit.ensures) in
    rw c.refused-then-script-ne0.ensures
    (ap (worded run_words) (odd a.state.now a.image.now a.accesses.now a.script.now f c.if-script-ne0.true))

pub returns : goal.returns
returns c =
    let a = c.args in
    let f = fits _ _ (sym c.in_default.is ∙ c.fit.ensures) in
    let same = (rw c.unwrap-bytes.ensures at c.as_mut_array.ensures.cases).same in
    (rw same at c.play.ensures) ∙ ap (worded run_words) (even a.state.now a.image.now a.accesses.now a.script.now f c.if-script-ne0.false)
