use Rattle.std.proofs.Common.{sym, ◌∙◌}
use Rattle.admission_rules.proofs.Safe.{demand3}
use Rattle.admission.proofs.admit.Goals as goal

pub returns-clause-safe : goal.returns-clause-safe
returns-clause-safe c = λ e. demand3 _ _ _ (sym c.verdict.ensures ∙ e)
