-- Admission has one verdict: the equation fixes it, whatever is promised beside.
use mathlib.Core.Path.{refl}
use Rattle.admission.proofs as its
use Rattle.unique.proofs.General.{Unique, answer}

pub admit : Unique its.admit.Kinds.ps its.admit.Kinds.r its.admit.Reads.Post
admit κs a x y p q = answer refl p.0 q.0
