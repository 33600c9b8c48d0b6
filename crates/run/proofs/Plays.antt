-- One turn of a run: what it plays is what the rules play from where it stands.
use Prim.Native.Nat.{ℕ, suc, ◌+◌, ◌-◌, ◌*◌, ◌/◌, ◌%◌, ◌≤◌, ◌<◌}
use native.Mathlib.Omega.{arith}
use mathlib.Core.Path.{◌≡◌, refl, sym, ap, subst, ◌∙◌}
use mathlib.Core.List.{List, ◌∷◌, ◌++◌}
use lib.ListN.{length, take, drop, take-append-drop, length-drop, drop_of_length-le}
use lib.Seq.{drop-cons}
use Rattle.std.specs.Prelude.{Result, Ok, Err}
use Rattle.rules.specs.declared.Refusal.{Refusal}
use Rattle.rules.specs.Answers.{step_word, refusal_word, ended}
use Rattle.rules.specs.Basics.{at}
use Rattle.rules.specs.Bus.{images}
use Rattle.rules.specs.Step.{Outcome, step, left, worded}
use Rattle.rules.specs.Run.{continued, play}
use Rattle.laws.proofs.Lists.{rest_lent}
use Rattle.laws.proofs.Steps.{Done, lawful}
use Rattle.checks.specs.Checks.{Fits}
use Rattle.words.proofs.Laws.{counted}
use Rattle.run.specs.Plays.{standing}

-- the script's next two bytes
next_two : (s : List ℕ) (i : ℕ) → i + 1 < length s → drop i s ≡ at s i ∷ at s (i + 1) ∷ drop (i + 2) s
next_two s i h =
    let a : suc i ≡ i + 1 = omega arith in
    let b : suc (i + 1) ≡ i + 2 = omega arith in
    drop-cons s i 0 (omega arith) ∙ ap (λ (t : List ℕ). at s i ∷ t) (rw a (drop-cons s (i + 1) 0 h ∙ (rw b)))

-- What a step's word tells of its answer.
module _ (w : ℕ) (r m l : List ℕ) (o : Outcome (Result ℕ Refusal) (List ℕ)) (e : left w r m l ≡ worded step_word o) where
  word_is : w ≡ step_word o.answer
  word_is = λ j. (e j).answer

  same : (a : Result ℕ Refusal) → o.answer ≡ a → left a r m l ≡ o
  same a h = (λ j. left (sym h j) (e j).state (e j).image (e j).accesses)

  pub told_stepped : w % 256 ≡ 0 → left (Ok (w / 256)) r m l ≡ o
  told_stepped h = same (Ok (w / 256)) (counted o.answer w word_is h)

  pub told_refused : (w % 256 ≡ 0 → ⊥) → (d : Refusal) × (w ≡ refusal_word d) × (left (Err d) r m l ≡ o)
  told_refused h = go o.answer refl
    where
      go : (a : Result ℕ Refusal) → o.answer ≡ a → (d : Refusal) × (w ≡ refusal_word d) × (left (Err d) r m l ≡ o)
      go (Ok n) q = let x : w ≡ step_word (Ok n) = word_is ∙ ap step_word q in absurd (h (omega arith))
      go (Err d) q = (d, word_is ∙ ap step_word q, same (Err d) q)

-- A run that has done so many steps of the script s.
module _ (s r m l : List ℕ) (steps listed : ℕ) where
  -- where the next step's two bytes stand
  abbrev i : ℕ
  i = steps * 2

  abbrev rest : List ℕ
  rest = drop (8 * listed) l

  abbrev turn : Outcome (Result ℕ Refusal) (List ℕ)
  turn = step images r m (at s i) (at s (i + 1)) rest

  -- what it is lent is the buffer's rest
  pub lent : (w : ℕ) (r' m' t : List ℕ) →
      left w r' m' t ≡ worded step_word (step images r m (at s i) (at s (i + 1)) (take (length l - 8 * listed) (drop (8 * listed) l))) →
      left w r' m' t ≡ worded step_word turn
  lent w r' m' t e = e ∙ (λ j. worded step_word (step images r m (at s i) (at s (i + 1)) (rest_lent (8 * listed) l j)))

  -- it is at the end
  pub ends : length s ≤ i → left (ended steps listed (Ok tt)) r m l ≡ play images (drop i s) (standing steps listed r m l)
  unfolding play
  ends h = rw (drop_of_length-le s h)

  taken : i + 1 < length s →
      play images (drop i s) (standing steps listed r m l) ≡
      continued (play images (drop (i + 2) s)) (standing steps listed r m l) turn turn.answer
  unfolding play
  taken h = ap (λ (t : List ℕ). play images t (standing steps listed r m l)) (next_two s i h)

  -- it has done that step
  module _ (n : ℕ) (r' m' t : List ℕ) (e : left (Ok n) r' m' t ≡ turn) where
    pub goes_on : i + 1 < length s →
        play images (drop i s) (standing steps listed r m l) ≡
        play images (drop ((steps + 1) * 2) s) (standing (steps + 1) (listed + n) r' m' (take (8 * listed) l ++ t))
    goes_on h =
        let k : i + 2 ≡ (steps + 1) * 2 = omega arith in
        taken h ∙ (λ j. let o = sym e j in continued (play images (drop (i + 2) s)) (standing steps listed r m l) o o.answer)
        ∙ (λ j. play images (drop (k j) s) (standing (steps + 1) (listed + n) r' m' (take (8 * listed) l ++ t)))

    did : Done images r m (at s i) (at s (i + 1)) rest (left (Ok n) r' m' t) n
    did =
        subst (λ (o : Outcome (Result ℕ Refusal) (List ℕ)). Done images r m (at s i) (at s (i + 1)) rest o n) (sym e)
        ((lawful images r m (at s i) (at s (i + 1)) rest).moves n (λ j. (sym e j).answer))

    pub still_fits : Fits r m → length m' ≡ length m → Fits r' m'
    still_fits f h = let d = did in record { whole = d.record_size; formed = d.record_formed; image = rw (d.part, h) f.image }

    pub still_room : 8 * listed ≤ length l → 8 * (listed + n) ≤ length l
    still_room h = omega (arith, did.room, length-drop (8 * listed) l)

  -- that step was refused
  pub stops : (d : Refusal) (r' m' t : List ℕ) → left (Err d) r' m' t ≡ turn → i + 1 < length s →
      left (ended steps listed (Err d)) r' m' (take (8 * listed) l ++ t) ≡ play images (drop i s) (standing steps listed r m l)
  stops d r' m' t e h =
      let q = e ∙ (lawful images r m (at s i) (at s (i + 1)) rest).stays d (λ j. (sym e j).answer) in
      let back = take-append-drop (8 * listed) l in
      (λ j. let o = q j in left (ended steps listed (Err d)) o.state o.image (take (8 * listed) l ++ o.accesses))
      ∙ (λ j. left (ended steps listed (Err d)) r m (back j))
      ∙ sym (taken h ∙ (λ j. let o = sym e j in continued (play images (drop (i + 2) s)) (standing steps listed r m l) o o.answer))
