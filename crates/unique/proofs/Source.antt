-- Bytes are listed in one way.
use mathlib.Core.Path.{sym, ◌∙◌}
use Rattle.source.proofs as its
use Rattle.unique.proofs.General.{Unique}

pub list : Unique its.list.Kinds.ps its.list.Kinds.r its.list.Reads.Post
list κs a x y p q j = ((p.answer ∙ sym q.answer) j, (tt, (tt, ((p.text ∙ sym q.text) j, tt))))
