-- A run: "takes a script of 2 bytes per step (lines, pins); each step's list is written into the rest of the access buffer".
use Rattle.std.specs.Prelude.{ℕ, ◌+◌, ◌*◌, ◌%◌, List, [], ◌∷◌, ◌++◌, eqb, length, take, drop, Result, Ok, Err}
use Rattle.rules.specs.declared.Refusal.{Refusal}
use Rattle.rules.specs.declared.Refusal.TheVariants.{ScriptLength}
use Rattle.rules.specs.Bus.{Memory}
use Rattle.rules.specs.Answers.{RunAnswer, ended, Test, ◌unless◌, tested}
use Rattle.rules.specs.Step.{Outcome, left, worded, record_tests, step}

-- the steps done and the accesses listed
pub record Tally : Type 0 where
  pub steps : ℕ
  pub listed : ℕ

-- a run that has not begun
abbrev pub start : {M : Type 0} → List ℕ → M → List ℕ → Outcome Tally M
start r m buffer = left (record { steps = 0; listed = 0 }) r m buffer

-- where the run stands after that step o, of n accesses
abbrev pub further : {M : Type 0} → Outcome Tally M → Outcome (Result ℕ Refusal) M → ℕ → Outcome Tally M
further s o n =
    left (record { steps = s.answer.steps + 1; listed = s.answer.listed + n }) o.state o.image
    (take (8 * s.answer.listed) s.accesses ++ o.accesses)

abbrev pub played : {M : Type 0} → Outcome Tally M → Outcome RunAnswer M
played s = worded (λ t. ended t.steps t.listed (Ok tt)) s

-- "a refusal in a step ends it, with the steps done standing and counted"
abbrev pub stopped : {M : Type 0} → Outcome Tally M → Refusal → Outcome RunAnswer M
stopped s e = worded (λ t. ended t.steps t.listed (Err e)) s

-- after a step o that answered so: the rest of the run, or its end
abbrev pub continued : {M : Type 0} → (Outcome Tally M → Outcome RunAnswer M) → Outcome Tally M → Outcome (Result ℕ Refusal) M →
    Result ℕ Refusal → Outcome RunAnswer M
continued rest s o (Ok n) = rest (further s o n)
continued rest s o (Err e) = stopped s e

module _ {M : Type 0} (memory : Memory M) where
  -- one step of a run that stands at s, into the rest of the access buffer
  abbrev pub step_at : ℕ → ℕ → Outcome Tally M → Outcome (Result ℕ Refusal) M
  step_at lines pins s = step memory s.state s.image lines pins (drop (8 * s.answer.listed) s.accesses)

  -- step by step to the script's end; its length is even
  unfoldable pub play : List ℕ → Outcome Tally M → Outcome RunAnswer M
  play [] s = played s
  play (lines ∷ []) s = played s
  play (lines ∷ pins ∷ script) s = let o = step_at lines pins s in continued (λ t. play script t) s o o.answer

  -- "Run: 1, 2, 3, 7 before anything"
  abbrev pub run_tests : List ℕ → M → List ℕ → List Test
  run_tests r m script = record_tests memory r m ++ ScriptLength unless eqb (length script % 2) 0 ∷ []

  unfoldable pub run_of : List ℕ → M → List ℕ → List ℕ → Outcome RunAnswer M
  run_of r m script buffer = let s = start r m buffer in tested (run_tests r m script) (stopped s) (play script s)
