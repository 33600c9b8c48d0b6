-- Each function of names has one answer.
use mathlib.Core.Path.{refl}
use Rattle.names.proofs as its
use Rattle.unique.proofs.General.{Unique, answer}

pub name_of : Unique its.name_of.Kinds.ps its.name_of.Kinds.r its.name_of.Reads.Post
name_of κs a x y = answer refl

pub shape_of : Unique its.shape_of.Kinds.ps its.shape_of.Kinds.r its.shape_of.Reads.Post
shape_of κs a x y = answer refl
