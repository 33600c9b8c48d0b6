-- What is printed where the input is refused, and where a step was made.
use Prim.Native.Nat.{ℕ, ◌-◌, ◌/◌, ◌%◌, ◌≤◌, ◌<◌}
use native.Mathlib.Omega.{arith}
use mathlib.Core.Path.{◌≡◌}
use mathlib.Core.Bool.{true, false}
use mathlib.Core.List.{List, ◌++◌}
use borrow.Author.Tests.{lt-leb, le-leb, eq-eqb, ne_eqb}
use lib.ListN.{length, take, drop, length-append, length-drop, replicate}
use Rattle.std.specs.Prelude.{Result}
use Rattle.rules.specs.declared.Refusal.{Refusal}
use Rattle.rules.specs.declared.Refusal.TheVariants.{RecordLength, Malformed, ImageLength}
use Rattle.rules.specs.Basics.{at}
use Rattle.rules.specs.Answers.{step_word}
use Rattle.rules.specs.Bus.{images}
use Rattle.rules.specs.Record.{well_formed}
use Rattle.rules.specs.Step.{Outcome, front, step, left, worded}
use Rattle.laws.proofs.Lists.{rest_lent}
use Rattle.laws.proofs.Steps.{lawful}
use Rattle.checks.specs.Checks.{Fits}
use Rattle.words.proofs.Laws.{counted}
use Rattle.rules.specs.Text.{text_of, refusal_line, step_text, printed}
use Rattle.characters.specs.Shown.{Shows}
use Rattle.text.specs.Print.{printout, input_after, printing}

module _ (i t t' : List ℕ) (n : ℕ) where
  -- the step that is made
  abbrev made : Outcome (Result ℕ Refusal) (List ℕ)
  made = step images (take 16 i) (drop 18 i) (at i 16) (at i 17) (replicate 56 0)

  pub print_short : length i < 16 → Shows (refusal_line RecordLength) n t t' → printout n i t' ≡ printing i t
  unfolding text_of input_after
  print_short h s = rw (lt-leb 16 (length i) h, s.count, s.text)

  module _ (room : 16 ≤ length i) where
    pub print_malformed : well_formed (take 16 i) ≡ false → Shows (refusal_line Malformed) n t t' → printout n i t' ≡ printing i t
    unfolding text_of input_after
    print_malformed h s = rw (le-leb 16 (length i) room, h, s.count, s.text)

    module _ (well : well_formed (take 16 i) ≡ true) where
      pub print_length : (length i ≡ 65554 → ⊥) → Shows (refusal_line ImageLength) n t t' → printout n i t' ≡ printing i t
      unfolding text_of input_after
      print_length h s = rw (le-leb 16 (length i) room, well, ne_eqb (length i) 65554 h, s.count, s.text)

      print_made : (a : Result ℕ Refusal) (r m l : List ℕ) → length i ≡ 65554 → left a r m l ≡ made →
          Shows (step_text a r l) n t t' →
          printout n (take 18 i ++ m) t' ≡ printing i t
      unfolding text_of input_after
      print_made a r m l h e s = rw (le-leb 16 (length i) room, well, eq-eqb (length i) 65554 h, ← e, s.count, s.text)

      pub print_step : (word : ℕ) (r m l : List ℕ) → length i ≡ 65554 → left word r m l ≡ worded step_word made →
          ((a : Result ℕ Refusal) → word ≡ step_word a → Shows (step_text a r l) n t t') →
          printout n (take 18 i ++ m) t' ≡ printing i t
      print_step word r m l h e s =
          let a = made.answer in
          print_made a r m l h (λ j. let o = e j in left a o.state o.image o.accesses) (s a (λ j. (e j).answer))

-- an input of the right length has an image that fits
pub fits : (i r : List ℕ) → length r ≡ 16 → well_formed r ≡ true → length i ≡ 65554 →
    Fits r (take (length i - 18) (drop 18 i))
fits i r whole formed size =
    let n : length (take (length i - 18) (drop 18 i)) ≡ 65536 = rw (rest_lent 18 i, length-drop 18 i) (omega arith) in
    record { whole = whole; formed = formed; image = rw n }

-- a step answers at most 7
pub few : (word : ℕ) (r m l r' m' l' : List ℕ) (lines pins : ℕ) →
    left word r' m' l' ≡ worded step_word (step images r m lines pins l) → word % 256 ≡ 0 → word / 256 ≤ 7
few word r m l r' m' l' lines pins e h =
    ((lawful images r m lines pins l).moves (word / 256) (counted _ word (λ j. (e j).answer) h)).most

-- the text lies in its buffer
pub within : (n : ℕ) (i i' t t' : List ℕ) → printout n i' t' ≡ printing i t → n ≤ length t'
within n i i' t t' e =
    let count : n ≡ length (printed i) = λ j. (e j).count in
    let size : length t' ≡ length (front (printed i) t) = λ j. length (e j).text in
    omega (arith, simp length-append at size)
