-- A run keeps what its earlier steps listed, and leaves a well-formed record.
use Prim.Native.Nat.{ℕ, ◌+◌, ◌*◌, ◌≤◌}
use native.Mathlib.Omega.{arith}
use mathlib.Core.Path.{◌≡◌, refl, sym, ap, ◌∙◌}
use mathlib.Core.Bool.{true}
use mathlib.Core.List.{List, [], ◌∷◌, ◌++◌}
use lib.ListN.{length, take, drop, length-append, length-drop}
use lib.Seq.{length-take-le, take-take, take_at, take-append-add}
use Rattle.std.specs.Prelude.{Result, Ok, Err}
use Rattle.rules.specs.declared.Refusal.{Refusal}
use Rattle.rules.specs.Answers.{RunAnswer}
use Rattle.rules.specs.Bus.{Memory, list_of}
use Rattle.rules.specs.Record.{well_formed}
use Rattle.rules.specs.Step.{Outcome}
use Rattle.rules.specs.Run.{Tally, step_at, further, continued, play}
use Rattle.laws.proofs.Steps.{trace, lawful, Done}

module _ {M : Type 0} (memory : Memory M) where
  -- where a run may stand: what was listed lies in the buffer, and the record is well formed
  pub record Sound (s : Outcome Tally M) : Type 0 where
    pub within : 8 * s.answer.listed ≤ length s.accesses
    pub record_size : length s.state ≡ 16
    pub record_formed : well_formed s.state ≡ true

  -- what is kept from there on
  pub record Kept (s : Outcome Tally M) (o : Outcome RunAnswer M) : Type 0 where
    pub size : length o.accesses ≡ length s.accesses
    pub listed : take (8 * s.answer.listed) o.accesses ≡ take (8 * s.answer.listed) s.accesses
    pub record_size : length o.state ≡ 16
    pub record_formed : well_formed o.state ≡ true

  ended_kept : (s : Outcome Tally M) (a : RunAnswer) → Sound s →
      Kept s (record { answer = a; state = s.state; image = s.image; accesses = s.accesses })
  ended_kept s a q = record { size = refl; listed = refl; record_size = q.record_size; record_formed = q.record_formed }

  module _ (lines pins : ℕ) (s : Outcome Tally M) (n : ℕ) (q : Sound s) (e : (step_at memory lines pins s).answer ≡ Ok n) where
    abbrev i : ℕ
    i = 8 * s.answer.listed

    abbrev o : Outcome (Result ℕ Refusal) M
    o = step_at memory lines pins s

    done : Done memory s.state s.image lines pins (drop i s.accesses) o n
    done = (lawful memory s.state s.image lines pins (drop i s.accesses)).moves n e

    further_size : length (take i s.accesses ++ o.accesses) ≡ length s.accesses
    further_size =
        omega (
          arith,
          length-append (take i s.accesses) o.accesses,
          length-take-le i s.accesses q.within,
          done.size,
          length-drop i s.accesses,
          q.within,
        )

    further_sound : Sound (further s o n)
    further_sound =
        record {
          within = omega (arith, further_size, done.least, done.room, length-drop i s.accesses, q.within);
          record_size = done.record_size;
          record_formed = done.record_formed;
        }

    further_kept : (r : Outcome RunAnswer M) → Kept (further s o n) r → Kept s r
    further_kept r k =
        let j = 8 * (further s o n).answer.listed in
        let h : i ≤ j = omega arith in
        record {
          size = k.size ∙ further_size;
          listed =
              sym (take-take i j r.accesses h) ∙ ap (take i) k.listed ∙ take-take i j (take i s.accesses ++ o.accesses) h
              ∙ take_at (take i s.accesses) o.accesses i (length-take-le i s.accesses q.within);
          record_size = k.record_size;
          record_formed = k.record_formed;
        }

  pub play_kept : (script : List ℕ) (s : Outcome Tally M) → Sound s → Kept s (play memory script s)
  unfolding play
  play_kept [] s q = ended_kept s _ q
  play_kept (lines ∷ []) s q = ended_kept s _ q
  play_kept (lines ∷ pins ∷ script) s q = go (step_at memory lines pins s).answer refl (λ t. play_kept script t)
    where
      go : (a : Result ℕ Refusal) → (step_at memory lines pins s).answer ≡ a →
          ((t : Outcome Tally M) → Sound t → Kept t (play memory script t)) →
          Kept s (continued (play memory script) s (step_at memory lines pins s) a)
      go (Ok n) e rest = further_kept lines pins s n q e (play memory script (further s (step_at memory lines pins s) n))
          (rest _ (further_sound lines pins s n q e))
      go (Err d) e rest = ended_kept s _ q

  -- what a step listed stands there when all later steps are done
  module _ (lines pins : ℕ) (script : List ℕ) (s : Outcome Tally M) (n : ℕ) (q : Sound s)
      (e : (step_at memory lines pins s).answer ≡ Ok n) where
    abbrev before : List ℕ
    before = take (8 * s.answer.listed) s.accesses

    pub step_kept : take (8 * (s.answer.listed + n)) (play memory (lines ∷ pins ∷ script) s).accesses ≡
        before ++ list_of (trace memory s.state s.image lines pins (drop (8 * s.answer.listed) s.accesses))
    unfolding play
    step_kept =
        let o = step_at memory lines pins s in
        let k = play_kept script (further s o n) (further_sound lines pins s n q e) in
        let d = length-take-le (8 * s.answer.listed) s.accesses q.within in
        let size : 8 * (s.answer.listed + n) ≡ length before + 8 * n = omega arith in
        ap (λ (a : Result ℕ Refusal). take (8 * (s.answer.listed + n)) (continued (play memory script) s o a).accesses) e ∙ k.listed
        ∙ ap (λ (j : ℕ). take j (before ++ o.accesses)) size ∙ take-append-add before o.accesses (8 * n)
        ∙ ap (λ (l : List ℕ). before ++ l) (done lines pins s n q e).listed
