-- Each function of bytes has one answer.
use mathlib.Core.Path.{refl}
use Rattle.addresses.proofs as its
use Rattle.unique.proofs.General.{Unique, answer}

pub join : Unique its.join.Kinds.ps its.join.Kinds.r its.join.Reads.Post
join κs a x y = answer refl

pub old_page : Unique its.old_page.Kinds.ps its.old_page.Kinds.r its.old_page.Reads.Post
old_page κs a x y = answer refl

pub target : Unique its.target.Kinds.ps its.target.Kinds.r its.target.Reads.Post
target κs a x y = answer refl

pub stack : Unique its.stack.Kinds.ps its.stack.Kinds.r its.stack.Reads.Post
stack κs a x y = answer refl

pub down : Unique its.down.Kinds.ps its.down.Kinds.r its.down.Reads.Post
down κs a x y = answer refl
