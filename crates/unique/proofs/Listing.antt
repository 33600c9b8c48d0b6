-- Each access is listed in one way.
use mathlib.Core.Path.{refl}
use Rattle.listing.proofs as its
use Rattle.unique.proofs.General.{Unique, lent_second}

pub note_read : Unique its.note_read.Kinds.ps its.note_read.Kinds.r its.note_read.Reads.Post
note_read κs a x y = lent_second refl

pub note_write : Unique its.note_write.Kinds.ps its.note_write.Kinds.r its.note_write.Reads.Post
note_write κs a x y = lent_second refl
