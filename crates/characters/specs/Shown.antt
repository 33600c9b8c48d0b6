-- A text that is put at a place, and at the front of a buffer.
use Rattle.std.specs.Prelude.{ℕ, ◌+◌, ◌≡◌, List, length}
use Rattle.std.proofs.lemmas.List.Edits.{sets}
use Rattle.rules.specs.Step.{front}

-- the text l, put at a place, ends at e
pub record Puts (l : List ℕ) (p e : ℕ) (t t' : List ℕ) : Type 0 where
  pub end : e ≡ p + length l
  pub text : t' ≡ sets t p l

-- it has n bytes at the front, and later bytes stay
pub record Shows (l : List ℕ) (n : ℕ) (t t' : List ℕ) : Type 0 where
  pub count : n ≡ length l
  pub text : t' ≡ front l t
