-- No second length or text fits the contract of `print`.
use mathlib.Core.Path.{sym, ◌∙◌}
use Rattle.report.proofs as its
use Rattle.unique.proofs.General.{Unique}

pub print : Unique its.print.Kinds.ps its.print.Kinds.r its.print.Reads.Post
print κs a x y p q i = ((p.count ∙ sym q.count) i, (tt, ((p.text ∙ sym q.text) i, tt)))
