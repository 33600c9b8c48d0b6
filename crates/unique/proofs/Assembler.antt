-- A text assembles to one answer, and leaves one content of the buffer.
use mathlib.Core.Path.{sym, ◌∙◌}
use Rattle.assembler.proofs as its
use Rattle.unique.proofs.General.{Unique}

pub assemble : Unique its.assemble.Kinds.ps its.assemble.Kinds.r its.assemble.Reads.Post
assemble κs a x y p q j = ((p.0 ∙ sym q.0) j, (tt, (tt, ((p.1 ∙ sym q.1) j, tt))))
