-- The lines of the report, put one behind the other.
use Prim.Native.Nat.{ℕ, zero, suc, ◌+◌, ◌*◌, ◌≤◌, ◌<◌, ◌^◌}
use Prim.Native.Char.{code}
use native.Mathlib.Omega.{arith}
use mathlib.Core.Path.{◌≡◌, ap, ◌∙◌}
use mathlib.Core.Bool.{Bool, true, false, ◌&&◌}
use mathlib.Core.List.{List, [], ◌∷◌, ◌++◌}
use lib.Dec.{ltb, eqb}
use lib.ListN.{length, length-append}
use Rattle.rules.specs.declared.Refusal.TheVariants.{Total}
use Rattle.rules.specs.Basics.{when◌then◌else◌, at}
use Rattle.rules.specs.Text.{spaced, each, number_line, refusal_line}
use Rattle.rules.specs.Pages.{sum, page_line, traffic_line, report_text}
use Rattle.laws.proofs.Tests.{if_case}
use denote.Ref.{Bor}
use Rattle.std.specs.Prelude.{Ok, Option, Some, None}
use Rattle.std.specs.declared.iter.Enumerate.{Enumerate}
use Rattle.std.specs.declared.iter.Zip.{Zip}
use Rattle.std.proofs.Common.{Iter}
use Rattle.std.specs.Iterator.{Yields}
use Rattle.std.specs.Iterator.Adapters.{enumerate_source, enumerate_count, enumerate_steps, zip_first, zip_second}
use Rattle.std.specs.Slice.Iter.{iter_rest}
use Rattle.std.proofs.iter.Yields.{fronts}
use Rattle.std.proofs.lemmas.Iterator.{zips, YieldsList-from_slice, YieldsList-from_zip}
use Rattle.std.proofs.lemmas.Iterator.Consumers.{YieldsList-from_enumerate, YieldsList-turn}
use Rattle.std.specs.List.{zip}
use Rattle.std.proofs.lemmas.List.FromFn.{length-enumerate_from, get_or-enumerate_from}
use Rattle.std.proofs.lemmas.Grind.{get_or_default_zero}
use Rattle.std.proofs.lemmas.Slice.Zip.{length-zip, get_or-zip}
use Rattle.totals.specs.Totals.{total_of}
use Rattle.characters.specs.Shown.{Puts, Shows}
use Rattle.characters.proofs.Laws.{spaced_most, number_most, puts_append, puts_shown}

page_most : (page r w : ℕ) → length (page_line page r w) ≤ 45
unfolding page_line
page_most page r w =
    let two = length-append (spaced r) (spaced w) in
    omega (arith, spaced_most r, spaced_most w, two, length-append (spaced r ++ spaced w) (code "\n" ∷ []))

-- a page's number, and what was read and written there
abbrev pub Numbered : Type 0
Numbered = ℕ × (Bor ℕ × Bor ℕ)

module _ (reads writes : List ℕ) where
  traffic_most : (page : ℕ) → length (traffic_line reads writes page) ≤ 45
  traffic_most page =
      let r = at reads page in
      let w = at writes page in
      if_case (λ (l : List ℕ). length l ≤ 45) (eqb r 0 && eqb w 0) [] (page_line page r w) (λ h. omega arith) (λ h. page_most page r w)

  pub pages_most : (n : ℕ) → length (each n (traffic_line reads writes)) ≤ n * 45
  unfolding each
  pages_most zero = omega arith
  pages_most (suc n) =
      omega (arith, pages_most n, traffic_most n, length-append (each n (traffic_line reads writes)) (traffic_line reads writes n))

  -- what a loop over all pages is given after xs: the next page, and its counts
  pub page_turn : (xs : List Numbered) (s t u : Enumerate (Zip (Iter ℕ) (Iter ℕ))) (r : Option Numbered) (p : Numbered) →
      iter_rest (zip_first (enumerate_source s)) ≡ reads → iter_rest (zip_second (enumerate_source s)) ≡ writes → enumerate_count s ≡ 0 →
      Yields (enumerate_steps (zips fronts fronts)) s xs t → r ≡ Some p → enumerate_steps (zips fronts fronts) t r u →
      (length xs < length reads) × (p.0 ≡ length xs) × (p.1.0.now ≡ at reads (length xs)) × (p.1.1.now ≡ at writes (length xs))
  page_turn xs s t u r p a b none y e h =
      let both = YieldsList-from_zip (YieldsList-from_slice reads a) (YieldsList-from_slice writes b) in
      let turn = YieldsList-turn (YieldsList-from_enumerate {s = s} both none) xs t y r u p e h in
      let within : length xs < length (zip reads writes) = omega (arith, turn.0, length-enumerate_from 0 (zip reads writes)) in
      let few : length xs < length reads = omega (arith, within, length-zip reads writes) in
      let few' : length xs < length writes = omega (arith, within, length-zip reads writes) in
      let is = turn.1 ∙ get_or-enumerate_from 0 (zip reads writes) (length xs) _ within in
      let pair = ap (λ (q : ℕ × (ℕ × ℕ)). q.1) is ∙ get_or-zip reads writes (length xs) _ few few' in (
        few,
        omega (arith, ap (λ (q : ℕ × (ℕ × ℕ)). q.0) is),
        ap (λ (q : ℕ × ℕ). q.0) pair ∙ get_or_default_zero reads (length xs) _ few,
        ap (λ (q : ℕ × ℕ). q.1) pair ∙ get_or_default_zero writes (length xs) _ few',
      )

  -- the report, as the test of the total comes out
  abbrev reported : Bool → List ℕ
  reported f =
      when f then each 256 (traffic_line reads writes) ++ number_line (code "T") (sum reads + sum writes) else refusal_line Total

  -- the lines and the total, by what the sum is
  pub counts_shown : (total at r : ℕ) (t u v : List ℕ) → 11543 ≤ length t → Some total ≡ total_of (sum reads + sum writes) →
      Puts (each 256 (traffic_line reads writes)) 0 at t u → Puts (number_line (code "T") total) at r u v →
      Shows (report_text (Ok tt) reads writes) r t v
  counts_shown total at r t u v room e a b = go (ltb (sum reads + sum writes) (2 ^ 64)) e
    where
      go : (f : Bool) → Some total ≡ (when f then Some (sum reads + sum writes) else None) →
          Shows (reported f) r t v
      go true h =
          let same : total ≡ sum reads + sum writes = cc in
          rw (← same)
          (let size = length-append (each 256 (traffic_line reads writes)) (number_line (code "T") total) in
          puts_shown (puts_append a b) (omega (arith, pages_most 256, number_most (code "T") total, size)))
      go false h = let z : ◌≡◌ {A = ℕ} 0 1 = cc in absurd (omega arith)
