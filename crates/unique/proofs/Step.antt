-- A step has one word and leaves one record, one image and one list of accesses.
use Prim.Native.Nat.{ℕ}
use mathlib.Core.Path.{sym, ap, ◌∙◌}
use mathlib.Core.List.{List}
use Rattle.rules.specs.Step.{Outcome}
use Rattle.step.proofs as its
use Rattle.unique.proofs.General.{Unique}

-- the word, the record, the image and the list, each in the place of its parameter
abbrev placed : Outcome ℕ (List ℕ) → ℕ × (List ℕ × (List ℕ × (Unit {0} × (Unit {0} × (List ℕ × Unit {0})))))
placed o = (o.answer, (o.state, (o.image, (tt, (tt, (o.accesses, tt))))))

pub step : Unique its.step.Kinds.ps its.step.Kinds.r its.step.Reads.Post
step κs a x y p q = ap placed (p ∙ sym q)

pub quiet : Unique its.quiet.Kinds.ps its.quiet.Kinds.r its.quiet.Reads.Post
quiet κs a x y p q = ap (λ (o : Outcome ℕ (List ℕ)). (o.answer, (o.state, (o.image, (o.accesses, tt))))) (p ∙ sym q)
