-- What is put piece by piece stands at the buffer's front.
use Prim.Native.Char.{code}
use Prim.Native.Nat.{ℕ, ◌%◌, ◌≤◌}
use native.Mathlib.Omega.{arith}
use mathlib.Core.Path.{◌≡◌}
use mathlib.Core.List.{List}
use borrow.Author.Tests.{lt-ltb}
use lib.ListN.{length, length-append}
use Rattle.std.specs.Prelude.{Result, Ok, Err}
use Rattle.rules.specs.declared.Refusal.{Refusal}
use Rattle.rules.specs.Answers.{step_word}
use Rattle.rules.specs.Text.{digits, line_of, number_line, count_line, step_text}
use Rattle.characters.specs.Shown.{Shows}
use Rattle.words.proofs.Laws.{low}
use Rattle.text.proofs.Laws.{each_length, line_length, record_length}

-- the count of a step is one digit
pub count_length : (n : ℕ) → n ≤ 7 → length (count_line n) ≡ 4
unfolding number_line digits
count_length n h = rw (lt-ltb n 10 (omega arith))

-- the lines of a step's accesses, its count and its record are 137 bytes at most
pub step_most : (n : ℕ) (r l : List ℕ) → n ≤ 7 → length (step_text (Ok n) r l) ≤ 137
step_most n r l few =
    let lines = each_length (line_of l) 14 (line_length l) n in
    rw (length-append, length-append, lines, count_length n few, record_length r) (omega arith)

-- what is put for a step's word is the text of its answer
module _ (word n : ℕ) (r l t t' : List ℕ) where
  pub refused_shown : (word % 256 ≡ 0 → ⊥) → Shows (number_line (code "E") (word % 256)) n t t' →
      (a : Result ℕ Refusal) → word ≡ step_word a → Shows (step_text a r l) n t t'
  refused_shown h s (Ok k) e = absurd (h (omega (arith, e)))
  refused_shown h s (Err d) e = rw (← low d, ← e) s
