-- Each function of arithmetic has one answer.
use mathlib.Core.Path.{refl}
use Rattle.arithmetic.proofs as its
use Rattle.unique.proofs.General.{Unique, answer}

pub changed : Unique its.changed.Kinds.ps its.changed.Kinds.r its.changed.Reads.Post
changed κs a x y = answer refl
