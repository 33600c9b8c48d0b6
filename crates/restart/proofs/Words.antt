-- What follows of every word that fits the contracts of `wankitare_restart` and `wankitare_append_at`, taken as they stand in the crate.
use Prim.Native.Nat.{ℕ, ◌/◌, ◌%◌}
use native.Mathlib.Omega.{arith}
use mathlib.Core.Path.{◌≡◌, refl, sym, ap, subst, ◌∙◌}
use mathlib.Core.List.{List}
use contract.Lifetimes.{Lfts}
use borrow.Fn.Kinds.{Dens, ended_of}
use denote.Triple.Clauses.{AtExit}
use lib.ListN.{length}
use Rattle.std.specs.Prelude.{Result, Ok, Err}
use Rattle.rules.specs.declared.Refusal.{Refusal}
use Rattle.rules.specs.declared.Found.{Found}
use Rattle.rules.specs.Answers.{restart_word, append_word}
use Rattle.rules.specs.Restart.{record_at, restart, append_at, Grown}
use Rattle.laws.proofs.Restarts.{answer_of, found_place, finds_last, Written, found_written}
use Rattle.words.proofs.Laws.{numbered}
use Rattle.restart.proofs.wankitare_restart.Kinds as kinds
use Rattle.restart.proofs.wankitare_restart.Reads as reads
use Rattle.restart.proofs.wankitare_append_at.Kinds as append-kinds
use Rattle.restart.proofs.wankitare_append_at.Reads as append-reads

module _ (κs : Lfts 1) (a : Dens κs kinds.ps) (x : ℕ) (t : AtExit (ended_of 1 kinds.ps kinds.r) κs) where
  abbrev file : List ℕ
  file = a.0.now

  -- "a cut at any byte of an append finds the record that was last completely written, or gives 8 if there is none"
  pub finds : reads.Post κs a x t → {rs : List (List ℕ)} → Grown rs file → x ≡ restart_word (answer_of rs (length file % 16))
  finds p g = p ∙ ap restart_word (finds_last g).answer

  -- whatever power dips cut off, the record at the place answered was written whole
  pub finds_written : reads.Post κs a x t → x % 256 ≡ 0 → {rs : List (List ℕ)} (g : Grown rs file) → Written (record_at file (x / 65536)) g
  finds_written p h g = go (restart file) refl
    where
      go : (b : Result Found Refusal) → restart file ≡ b → Written (record_at file (x / 65536)) g
      go (Ok f) e =
          let w : x ≡ restart_word (Ok f) = p ∙ ap restart_word e in
          let same : f.at ≡ x / 65536 = omega (arith, w, (found_place file f e).1) in
          subst (λ (k : ℕ). Written (record_at file k) g) same (found_written g f e)
      go (Err d) e = absurd (numbered d ((λ j. sym (p ∙ ap restart_word e) j % 256) ∙ h))

-- a place answered is the rules' place of an append: where the board truncates and writes sixteen bytes, a file grows by a record
module _ (κs : Lfts 0) (a : Dens κs append-kinds.ps) (x : ℕ) (t : AtExit (ended_of 0 append-kinds.ps append-kinds.r) κs) where
  pub appends : append-reads.Post κs a x t → x % 256 ≡ 0 → append_at a.0 ≡ Ok (x / 65536)
  appends p h = go (append_at a.0) refl
    where
      go : (b : Result ℕ Refusal) → append_at a.0 ≡ b → append_at a.0 ≡ Ok (x / 65536)
      go (Ok q) e =
          let w : x ≡ append_word (Ok q) = p ∙ ap append_word e in
          let same : q ≡ x / 65536 = omega (arith, w) in
          e ∙ ap Ok same
      go (Err d) e = absurd (numbered d ((λ j. sym (p ∙ ap append_word e) j % 256) ∙ h))
