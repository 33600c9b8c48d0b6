-- Each function of internal leaves one record where the sixteen bytes stand for a state.
use mathlib.Core.Path.{◌≡◌, sym, ◌∙◌}
use Rattle.rules.specs.declared.State.{State}
use Rattle.rules.specs.Record.{record_of}
use Rattle.internal.proofs as its
use Rattle.unique.proofs.General.{UniqueWhere}

pub inside : (s : State) → UniqueWhere its.inside.Kinds.ps its.inside.Kinds.r (λ κs a. a.1.0.now ≡ record_of s) its.inside.Reads.Post
inside s κs a h x y p q j = (tt, (tt, ((p s h ∙ sym (q s h)) j, tt)))
