-- No second word, number or buffer fits the contract of the step or of the run.
use Prim.Native.Nat.{ℕ}
use mathlib.Core.Path.{sym, ap, ◌∙◌}
use mathlib.Core.List.{List}
use Rattle.rules.specs.Answers.{RunWords}
use Rattle.rules.specs.Step.{Outcome}
use Rattle.board.proofs as its
use Rattle.unique.proofs.General.{Unique}

-- the word, the record, the image and the access buffer, each in the place of its parameter
abbrev stepped : Outcome ℕ (List ℕ) → ℕ × (List ℕ × (List ℕ × (Unit {0} × (Unit {0} × (List ℕ × Unit {0})))))
stepped o = (o.answer, (o.state, (o.image, (tt, (tt, (o.accesses, tt))))))

pub wankitare_step : Unique its.wankitare_step.Kinds.ps its.wankitare_step.Kinds.r its.wankitare_step.Reads.Post
wankitare_step κs a x y p q = ap stepped (p ∙ sym q)

-- the word, the buffers and the two numbers, each in the place of its parameter
abbrev played : Outcome RunWords (List ℕ) → ℕ × (List ℕ × (List ℕ × (Unit {0} × (List ℕ × (ℕ × (ℕ × Unit {0}))))))
played o = (o.answer.word, (o.state, (o.image, (tt, (o.accesses, (o.answer.steps, (o.answer.listed, tt)))))))

pub wankitare_run : Unique its.wankitare_run.Kinds.ps its.wankitare_run.Kinds.r its.wankitare_run.Reads.Post
wankitare_run κs a x y p q = ap played (p ∙ sym q)
