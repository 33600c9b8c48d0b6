-- A text that assembles never needs more than three bytes a line.
use Prim.Native.Nat.{ℕ, suc, ◌+◌, ◌*◌, ◌≤◌}
use native.Mathlib.Omega.{arith}
use mathlib.Core.Path.{◌≡◌}
use mathlib.Core.Bool.{Bool, true, false}
use mathlib.Core.List.{List, [], ◌∷◌, ◌++◌}
use lib.Dec.{leb}
use lib.ListN.{length, length-append}
use Rattle.std.specs.Prelude.{Result, Ok, Err}
use Rattle.rules.specs.Basics.{when◌then◌else◌, sum16}
use Rattle.assembly_rules.specs.declared.Fault.{Fault}
use Rattle.assembly_rules.specs.declared.Line.{Line}
use Rattle.assembly_rules.specs.declared.Line.TheVariants.{Nothing, One, Two, Three}
use Rattle.assembly_rules.specs.Lines.{line_of}
use Rattle.assembly_rules.specs.Assembly.{lines_of, Made, made, wrong, fitted, judged, lines, assembled}
use Rattle.assembly_rules.proofs.Cases.{texts, faults, listings}

abbrev Within : ℕ → Made → Type 0
Within k m = (bytes : List ℕ) → m ≡ made bytes → length bytes ≤ k

module _ (room n k : ℕ) (before : List ℕ) (go_on : List ℕ → Made)
    (rest : (bytes : List ℕ) → length bytes ≤ 3 → Within (length before + 3 + k) (go_on (before ++ bytes))) where
  fitted_within : (bytes : List ℕ) → length bytes ≤ 3 → Within (length before + 3 + k) (fitted room n before go_on bytes)
  fitted_within bytes h = go (leb (length before + length bytes) room)
    where
      go : (b : Bool) → Within (length before + 3 + k) (when b then go_on (before ++ bytes) else wrong Fault.NoRoom n)
      go true all e = rest bytes h all e
      go false all e = let z : ◌≡◌ {A = ℕ} 0 1 = cc in absurd (omega arith)

  judged_within : (l : Result Line Fault) → Within (length before + 3 + k) (judged room n before go_on l)
  judged_within (Ok Nothing) all e = fitted_within [] (omega arith) all e
  judged_within (Ok (One a)) all e = fitted_within (a ∷ []) (omega arith) all e
  judged_within (Ok (Two a b)) all e = fitted_within (a ∷ b ∷ []) (omega arith) all e
  judged_within (Ok (Three a b c)) all e = fitted_within (a ∷ b ∷ c ∷ []) (omega arith) all e
  judged_within (Err f) all e = let z : ◌≡◌ {A = ℕ} 0 1 = cc in absurd (omega arith)

module _ (start room : ℕ) where
  lines_within : (ls : List (List ℕ)) (n : ℕ) (before : List ℕ) → Within (length before + 3 * length ls) (lines start room n before ls)
  unfolding lines
  lines_within [] n before bytes e = let same : before ≡ bytes = cc in rw (← same) (omega arith)
  lines_within (l ∷ ls) n before bytes e =
      let more = judged_within room n (3 * length ls) before (λ all. lines start room (suc n) all ls)
      (λ some h all f. omega (arith, lines_within ls (suc n) (before ++ some) all f, length-append before some))
      (line_of (sum16 start (length before)) l) bytes e in
      omega (arith, more)

  pub three_a_line : (text bytes : List ℕ) → assembled start room text ≡ made bytes → length bytes ≤ 3 * length (lines_of text)
  three_a_line text bytes e =
      -- what was computed comes first
      let texts_hold = texts in
      let faults_hold = faults in
      let listings_hold = listings in
      omega (arith, lines_within (lines_of text) _ [] bytes e)
