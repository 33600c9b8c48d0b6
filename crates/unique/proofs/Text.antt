-- No second count, input or text fits the contract of `print`.
use Prim.Native.Nat.{ℕ}
use mathlib.Core.Path.{sym, ap, ◌∙◌}
use mathlib.Core.List.{List}
use Rattle.text.specs.Print.{Printout}
use Rattle.text.proofs as its
use Rattle.unique.proofs.General.{Unique}

-- the count, the input and the text, each in the place of its parameter
abbrev placed : Printout → ℕ × (List ℕ × (List ℕ × Unit {0}))
placed o = (o.count, (o.input, (o.text, tt)))

pub print : Unique its.print.Kinds.ps its.print.Kinds.r its.print.Reads.Post
print κs a x y p q = ap placed (p ∙ sym q)
