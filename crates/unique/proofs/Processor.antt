-- Where the sixteen bytes stand for a state with these pins and an image of this length, an instruction leaves one record, one image and
-- one list of accesses, and answers one number of them.
use lib.ListN.{length}
use Rattle.rules.specs.declared.State.{State}
use Rattle.processor.specs.Executed.{Begins}
use Rattle.processor.proofs as its
use Rattle.unique.proofs.General.{UniqueWhere}
use Rattle.unique.proofs.Relations.{executed}

pub instruction : (s : State) →
    UniqueWhere its.instruction.Kinds.ps its.instruction.Kinds.r
    (λ κs a. Begins s a.1.0.now a.0 (length a.1.1.0.now))
    its.instruction.Reads.Post
instruction s κs a h x y p q j =
    let e = executed (p.1 s h) (q.1 s h) j in
    (e.answer, (tt, (e.state, (e.image, (e.accesses, tt)))))
