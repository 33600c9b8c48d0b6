-- Each function of restart has one answer.
use mathlib.Core.Path.{refl}
use Rattle.restart.proofs as its
use Rattle.unique.proofs.General.{Unique, answer}

pub wankitare_restart : Unique its.wankitare_restart.Kinds.ps its.wankitare_restart.Kinds.r its.wankitare_restart.Reads.Post
wankitare_restart κs a x y = answer refl

pub wankitare_append_at : Unique its.wankitare_append_at.Kinds.ps its.wankitare_append_at.Kinds.r its.wankitare_append_at.Reads.Post
wankitare_append_at κs a x y = answer refl
