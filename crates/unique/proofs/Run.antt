-- A run has one word and one number each of steps and accesses, and leaves one record, one image and one access buffer.
use Prim.Native.Nat.{ℕ}
use mathlib.Core.Path.{sym, ap, ◌∙◌}
use mathlib.Core.List.{List}
use Rattle.rules.specs.Answers.{RunWords}
use Rattle.rules.specs.Step.{Outcome}
use Rattle.run.proofs as its
use Rattle.unique.proofs.General.{Unique}

-- each in the place of its parameter
abbrev placed : Outcome RunWords (List ℕ) → ℕ × (List ℕ × (List ℕ × (Unit {0} × (List ℕ × (ℕ × (ℕ × Unit {0}))))))
placed o = (o.answer.word, (o.state, (o.image, (tt, (o.accesses, (o.answer.steps, (o.answer.listed, tt)))))))

pub run : Unique its.run.Kinds.ps its.run.Kinds.r its.run.Reads.Post
run κs a x y p q = ap placed (p ∙ sym q)
