-- What of an access is listed first: address low, high, bank and value, and four zeros.
use Rattle.std.specs.Prelude.{ℕ, ◌/◌, ◌%◌, List, [], ◌∷◌}

abbrev pub outline : ℕ → ℕ → ℕ → List ℕ
outline a bank v = a % 256 ∷ a / 256 ∷ bank ∷ v ∷ 0 ∷ 0 ∷ 0 ∷ 0 ∷ []
