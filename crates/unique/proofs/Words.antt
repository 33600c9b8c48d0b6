-- The numbers of a refusal, and every word, are fixed.
use mathlib.Core.Path.{refl}
use Rattle.words.proofs as its
use Rattle.unique.proofs.General.{Unique, answer}

pub numbers_of : Unique its.numbers_of.Kinds.ps its.numbers_of.Kinds.r its.numbers_of.Reads.Post
numbers_of κs a x y = answer refl

pub packed : Unique its.packed.Kinds.ps its.packed.Kinds.r its.packed.Reads.Post
packed κs a x y = answer refl

pub refusal_word : Unique its.refusal_word.Kinds.ps its.refusal_word.Kinds.r its.refusal_word.Reads.Post
refusal_word κs a x y = answer refl
