-- Each function of operations leaves one record where the sixteen bytes stand for a state.
use mathlib.Core.Path.{◌≡◌, sym, ◌∙◌}
use Rattle.rules.specs.declared.State.{State}
use Rattle.rules.specs.Record.{record_of}
use Rattle.operations.proofs as its
use Rattle.unique.proofs.General.{UniqueWhere}

pub used : (s : State) → UniqueWhere its.used.Kinds.ps its.used.Kinds.r (λ κs a. a.1.1.0.now ≡ record_of s) its.used.Reads.Post
used s κs a h x y p q j = (tt, (tt, (tt, ((p s h ∙ sym (q s h)) j, tt))))
