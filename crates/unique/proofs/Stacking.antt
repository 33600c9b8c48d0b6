-- Where the sixteen bytes stand for a state, what is done at the stack leaves one record, one image and one list of accesses.
use Rattle.rules.specs.declared.State.{State}
use Rattle.rules.specs.Cycles.{execution}
use Rattle.wiring.specs.Wiring.{Stands}
use Rattle.stacking.proofs as its
use Rattle.unique.proofs.General.{UniqueWhere}
use Rattle.unique.proofs.Relations.{does}

pub at_stack : (s : State) →
    UniqueWhere its.at_stack.Kinds.ps its.at_stack.Kinds.r (λ κs a. Stands execution s a.1.0.now a.1.1.0) its.at_stack.Reads.Post
at_stack s κs a h x y p q j =
    let e = does (p.1 s h) (q.1 s h) j in (e.answer, (tt, (e.state, (tt, (e.image, (e.accesses, tt))))))
