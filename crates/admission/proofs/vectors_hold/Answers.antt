use Rattle.admission.proofs.Rooms.{no_main, no_handler, rooms}
use Rattle.admission.proofs.vectors_hold.Goals as goal

pub returns-in_default : goal.returns-in_default
returns-in_default c = no_main _ _ _ _ c.vector_at.ensures c.need_at.ensures c.in_default.is

pub returns-in_default-need_at : goal.returns-in_default-need_at
returns-in_default-need_at c =
    no_handler _ _ _ _ c.vector_at.ensures c.need_at.ensures _ _ c.in-Some.is _ c.vector_at-2.ensures c.need_at-2.ensures
    c.in_default-need_at.is

pub returns : goal.returns
returns c =
    rooms _ _ _ _ c.vector_at.ensures c.need_at.ensures _ _ c.in-Some.is _ c.vector_at-2.ensures c.need_at-2.ensures _
    c.in-Some-need_at.is
