-- Sixteen bytes are a record or they are not.
use mathlib.Core.Path.{refl}
use Rattle.formed.proofs as its
use Rattle.unique.proofs.General.{Unique, answer}

pub well_formed : Unique its.well_formed.Kinds.ps its.well_formed.Kinds.r its.well_formed.Reads.Post
well_formed κs a x y = answer refl
