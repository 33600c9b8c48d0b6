-- Each function of state has one answer, or leaves one record.
use mathlib.Core.Path.{refl}
use Rattle.state.proofs as its
use Rattle.unique.proofs.General.{Unique, answer, lent}

pub pc_of : Unique its.pc_of.Kinds.ps its.pc_of.Kinds.r its.pc_of.Reads.Post
pc_of κs a x y = answer refl

pub flags_of : Unique its.flags_of.Kinds.ps its.flags_of.Kinds.r its.flags_of.Reads.Post
flags_of κs a x y = answer refl

pub set_pc : Unique its.set_pc.Kinds.ps its.set_pc.Kinds.r its.set_pc.Reads.Post
set_pc κs a x y = lent refl

pub set_s : Unique its.set_s.Kinds.ps its.set_s.Kinds.r its.set_s.Reads.Post
set_s κs a x y = lent refl

pub set_flags : Unique its.set_flags.Kinds.ps its.set_flags.Kinds.r its.set_flags.Reads.Post
set_flags κs a x y = lent refl

pub to : Unique its.to.Kinds.ps its.to.Kinds.r its.to.Reads.Post
to κs a x y = lent refl

pub to_result : Unique its.to_result.Kinds.ps its.to_result.Kinds.r its.to_result.Reads.Post
to_result κs a x y = lent refl
