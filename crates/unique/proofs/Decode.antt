-- An opcode and two bytes are one instruction.
use mathlib.Core.Path.{refl}
use Rattle.decode.proofs as its
use Rattle.unique.proofs.General.{Unique, answer}

pub decode : Unique its.decode.Kinds.ps its.decode.Kinds.r its.decode.Reads.Post
decode κs a x y = answer refl
