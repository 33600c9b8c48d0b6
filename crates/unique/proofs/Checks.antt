-- Each function of checks has one answer.
use mathlib.Core.Path.{refl}
use Rattle.checks.proofs as its
use Rattle.unique.proofs.General.{Unique, answer}

pub fit : Unique its.fit.Kinds.ps its.fit.Kinds.r its.fit.Reads.Post
fit κs a x y = answer refl

pub lines_fit : Unique its.lines_fit.Kinds.ps its.lines_fit.Kinds.r its.lines_fit.Reads.Post
lines_fit κs a x y = answer refl
