-- All counts together have one sum.
use mathlib.Core.Path.{refl}
use Rattle.totals.proofs as its
use Rattle.unique.proofs.General.{Unique, answer}

pub total_of : Unique its.total_of.Kinds.ps its.total_of.Kinds.r its.total_of.Reads.Post
total_of κs a x y = answer refl
