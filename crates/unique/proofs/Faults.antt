-- Each function of faults has one answer.
use mathlib.Core.Path.{refl}
use Rattle.faults.proofs as its
use Rattle.unique.proofs.General.{Unique, answer}

pub number_of : Unique its.number_of.Kinds.ps its.number_of.Kinds.r its.number_of.Reads.Post
number_of κs a x y = answer refl
