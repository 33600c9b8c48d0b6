-- What follows of every word and every buffer that fit the contract of `wankitare_step`, taken as it stands in the crate.
use Prim.Native.Nat.{ℕ, ◌/◌, ◌%◌}
use native.Mathlib.Omega.{arith}
use mathlib.Core.Path.{◌≡◌, refl, sym, ap, subst, ◌∙◌}
use mathlib.Core.List.{List}
use contract.Lifetimes.{Lfts}
use borrow.Fn.Kinds.{Dens, ended_of}
use denote.Triple.Clauses.{AtExit}
use Rattle.std.specs.Prelude.{Result, Ok, Err}
use Rattle.rules.specs.declared.Refusal.{Refusal}
use Rattle.rules.specs.Answers.{step_word}
use Rattle.rules.specs.Bus.{images}
use Rattle.rules.specs.Step.{Outcome, step, left}
use Rattle.laws.proofs.Steps.{Done, lawful}
use Rattle.words.proofs.Laws.{counted}
use Rattle.board.proofs.wankitare_step.Kinds as kinds
use Rattle.board.proofs.wankitare_step.Reads as reads

module _ (κs : Lfts 3) (a : Dens κs kinds.ps) (x : ℕ) (t : AtExit (ended_of 3 kinds.ps kinds.r) κs) where
  -- the record, the image and the access buffer as they were lent, and an answer with them as they were left
  abbrev r : List ℕ
  r = a.0.now

  abbrev i : List ℕ
  i = a.1.0.now

  abbrev l : List ℕ
  l = a.1.1.1.1.0.now

  abbrev after : {A : Type 0} → A → Outcome A (List ℕ)
  after b = left b t.0.now t.1.0.now t.1.1.1.1.0.now

  abbrev o : Outcome (Result ℕ Refusal) (List ℕ)
  o = step images r i a.1.1.0 a.1.1.1.0 l

  -- a refusal leaves every byte
  pub refused_stays : reads.Post κs a x t → (x % 256 ≡ 0 → ⊥) → after x ≡ left x r i l
  refused_stays p h = go o.answer refl
    where
      with_word : {A : Type 0} → Outcome A (List ℕ) → Outcome ℕ (List ℕ)
      with_word w = left x w.state w.image w.accesses

      go : (b : Result ℕ Refusal) → o.answer ≡ b → after x ≡ left x r i l
      go (Ok n) e = absurd (h ((λ j. (p j).answer % 256) ∙ ((λ j. step_word (e j) % 256) ∙ omega arith)))
      go (Err d) e = ap with_word p ∙ ap with_word ((lawful images r i a.1.1.0 a.1.1.1.0 l).stays d e)

  -- the word's count is the number of accesses and what was added to the record's count; the record stays well formed, of the same part and
  -- protected pages; the accesses are the buffer's front and its later bytes stay
  pub stepped_counts : reads.Post κs a x t → x % 256 ≡ 0 →
      Done images r i a.1.1.0 a.1.1.1.0 l (after (Ok (x / 256))) (x / 256)
  stepped_counts p h =
      let e = counted o.answer x (λ j. (p j).answer) h in
      subst (λ (w : Outcome (Result ℕ Refusal) (List ℕ)). Done images r i a.1.1.0 a.1.1.1.0 l w (x / 256))
      (λ j. let w = sym p j in left (e j) w.state w.image w.accesses)
      ((lawful images r i a.1.1.0 a.1.1.1.0 l).moves (x / 256) e)
