-- What is made has room.
use Rattle.std.proofs.Common.{◌≡◌, ℕ, suc, ◌≤◌, leb, List, [], ◌∷◌, ◌++◌, length, Result, Ok, Err, arith, length-append, leb-true}
use Rattle.rules.specs.Basics.{sum16}
use Rattle.laws.proofs.Tests.{if_case}
use Rattle.assembly_rules.specs.declared.Fault.{Fault}
use Rattle.assembly_rules.specs.declared.Fault.TheVariants.{NoRoom}
use Rattle.assembly_rules.specs.declared.Line.{Line}
use Rattle.assembly_rules.specs.declared.Line.TheVariants.{Nothing, One, Two, Three}
use Rattle.assembly_rules.specs.Lines.{line_of}
use Rattle.assembly_rules.specs.Assembly.{lines_of, Made, made, wrong, fitted, judged, lines, assembled, answer}

abbrev Within : ℕ → Made → Type 0
Within room (made bytes) = length bytes ≤ room
Within room (wrong e n) = Unit {0}

module _ (room n : ℕ) (before : List ℕ) (go_on : List ℕ → Made)
    (h : (bytes : List ℕ) → length bytes ≤ room → Within room (go_on bytes)) where
  fitted_within : (bytes : List ℕ) → Within room (fitted room n before go_on bytes)
  fitted_within bytes =
      if_case (Within room) (leb _ room) (go_on (before ++ bytes)) (wrong NoRoom n)
      (λ t. h (before ++ bytes) (rw (length-append before bytes) (leb-true _ room t))) (λ f. tt)

  judged_within : (l : Result Line Fault) → Within room (judged room n before go_on l)
  judged_within (Ok Nothing) = fitted_within []
  judged_within (Ok (One a)) = fitted_within (a ∷ [])
  judged_within (Ok (Two a b)) = fitted_within (a ∷ b ∷ [])
  judged_within (Ok (Three a b c)) = fitted_within (a ∷ b ∷ c ∷ [])
  judged_within (Err e) = tt

lines_within : (start room n : ℕ) (before : List ℕ) (ls : List (List ℕ)) → length before ≤ room → Within room (lines start room n before ls)
unfolding lines
lines_within start room n before [] h = h
lines_within start room n before (l ∷ ls) h =
    judged_within room n before (λ bytes. lines start room (suc n) bytes ls) (λ bytes f. lines_within start room (suc n) bytes ls f)
    (line_of (sum16 start (length before)) l)

counted_within : (room count : ℕ) (m : Made) → Within room m → Ok count ≡ answer m → count ≤ room
counted_within room count (made bytes) h e = let k : count ≡ length bytes = cc in rw k h
counted_within room count (wrong f n) h e = cc

-- so many bytes are those of the buffer
pub assembled_within : (start room : ℕ) (text : List ℕ) (count : ℕ) → Ok count ≡ answer (assembled start room text) → count ≤ room
assembled_within start room text count e =
    counted_within room count (assembled start room text) (lines_within start room 1 [] (lines_of text) (omega arith)) e
