-- A line means one thing.
use mathlib.Core.Path.{refl}
use Rattle.lines.proofs as its
use Rattle.unique.proofs.General.{Unique, answer}

pub line_of : Unique its.line_of.Kinds.ps its.line_of.Kinds.r its.line_of.Reads.Post
line_of κs a x y = answer refl
