use mathlib.Core.Path.{sym, ◌∙◌}
use Rattle.formed.proofs.Laws.{flags_fit_lem, flags_unfit}
use Rattle.formed.proofs.well_formed.Goals as goal

pub returns-then-flags_fit : goal.returns-then-flags_fit
returns-then-flags_fit c =
    c.rest_fits.ensures ∙ flags_fit_lem _ (sym c.flags_fit.ensures ∙ c.if-flags_fit.true)

pub returns-else-flags_fit : goal.returns-else-flags_fit
returns-else-flags_fit c = c.if-flags_fit.false ∙ flags_unfit _ (sym c.flags_fit.ensures ∙ c.if-flags_fit.false)
