-- Each function of flags has one answer.
use mathlib.Core.Path.{refl}
use Rattle.flags.proofs as its
use Rattle.unique.proofs.General.{Unique, answer}

pub has : Unique its.has.Kinds.ps its.has.Kinds.r its.has.Reads.Post
has κs a x y = answer refl

pub flags_of : Unique its.flags_of.Kinds.ps its.flags_of.Kinds.r its.flags_of.Reads.Post
flags_of κs a x y = answer refl

pub byte_of : Unique its.byte_of.Kinds.ps its.byte_of.Kinds.r its.byte_of.Reads.Post
byte_of κs a x y = answer refl

pub with_bit_4 : Unique its.with_bit_4.Kinds.ps its.with_bit_4.Kinds.r its.with_bit_4.Reads.Post
with_bit_4 κs a x y = answer refl

pub nzc : Unique its.nzc.Kinds.ps its.nzc.Kinds.r its.nzc.Reads.Post
nzc κs a x y = answer refl

pub with_i : Unique its.with_i.Kinds.ps its.with_i.Kinds.r its.with_i.Reads.Post
with_i κs a x y = answer refl

pub bit : Unique its.bit.Kinds.ps its.bit.Kinds.r its.bit.Reads.Post
bit κs a x y p q = answer refl p.0 q.0
