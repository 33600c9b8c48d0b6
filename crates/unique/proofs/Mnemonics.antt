-- Each function of mnemonics has one answer.
use mathlib.Core.Path.{refl}
use Rattle.mnemonics.proofs as its
use Rattle.unique.proofs.General.{Unique, answer}

pub opcode_of : Unique its.opcode_of.Kinds.ps its.opcode_of.Kinds.r its.opcode_of.Reads.Post
opcode_of κs a x y = answer refl

pub is_mnemonic : Unique its.is_mnemonic.Kinds.ps its.is_mnemonic.Kinds.r its.is_mnemonic.Reads.Post
is_mnemonic κs a x y = answer refl
