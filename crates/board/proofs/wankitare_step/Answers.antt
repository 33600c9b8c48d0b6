use Rattle.step.proofs.Finish.{closes_refused}
use mathlib.Core.Path.{sym, ◌∙◌}
use Rattle.board.proofs.wankitare_step.Goals as goal

pub returns-in-Err : goal.returns-in-Err
returns-in-Err c = rw c.refusal_word.ensures (closes_refused _ _ _ _ _ _ (sym c.in-Err.is ∙ c.fit.ensures))
