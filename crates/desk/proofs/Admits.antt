-- What is promised of a verdict is promised of its word: only acceptance is 0.
use Prim.Native.Nat.{ℕ}
use mathlib.Core.Path.{◌≡◌, refl, sym, ◌∙◌}
use Rattle.std.specs.Prelude.{Result, Ok, Err}
use Rattle.rules.specs.declared.Refusal.{Refusal}
use Rattle.rules.specs.Answers.{verdict_word}
use Rattle.words.proofs.Laws.{nonzero}

abbrev Verdict : Type 0
Verdict = Result (Unit {0}) Refusal

accepts : (v : Verdict) → verdict_word v ≡ 0 → v ≡ Ok tt
accepts (Ok v) h = refl
accepts (Err d) h = absurd (nonzero d h)

pub promised : (P : Type 0) (v w : Verdict) → v ≡ w → (v ≡ Ok tt → P) → (n : ℕ) → n ≡ verdict_word w → n ≡ 0 → P
promised P v w e h n word zero = h (e ∙ accepts w (sym word ∙ zero))
