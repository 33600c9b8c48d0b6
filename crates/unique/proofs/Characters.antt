-- Each function of characters has one answer, and leaves one text.
use mathlib.Core.Path.{refl}
use Rattle.characters.proofs as its
use Rattle.unique.proofs.General.{Unique, answer, both}

pub digit : Unique its.digit.Kinds.ps its.digit.Kinds.r its.digit.Reads.Post
digit κs a x y = answer refl

pub hex : Unique its.hex.Kinds.ps its.hex.Kinds.r its.hex.Reads.Post
hex κs a x y = answer refl

pub put : Unique its.put.Kinds.ps its.put.Kinds.r its.put.Reads.Post
put κs a x y p q = both refl p.end q.end p.text q.text

pub put_spaced : Unique its.put_spaced.Kinds.ps its.put_spaced.Kinds.r its.put_spaced.Reads.Post
put_spaced κs a x y p q = both refl p.end q.end p.text q.text

pub put_number : Unique its.put_number.Kinds.ps its.put_number.Kinds.r its.put_number.Reads.Post
put_number κs a x y p q = both refl p.end q.end p.text q.text

pub put_refusal : Unique its.put_refusal.Kinds.ps its.put_refusal.Kinds.r its.put_refusal.Reads.Post
put_refusal κs a x y p q = both refl p.count q.count p.text q.text
