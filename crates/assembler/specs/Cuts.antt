-- A text's first line, and the text behind it.
use Rattle.std.specs.Prelude.{◌≡◌, ℕ, ◌<◌, List, [], ◌∷◌, length, ◌==◌}
use Rattle.rules.specs.Basics.{when◌then◌else◌}
use Rattle.assembly_rules.specs.Assembly.{lines_of}

-- what stands before a LF, without the CR that it may end with
abbrev pub without_cr : List ℕ → List ℕ
without_cr [] = []
without_cr (c ∷ []) = when c == 13 then [] else c ∷ []
without_cr (c ∷ d ∷ s) = c ∷ without_cr (d ∷ s)

pub record Cuts (text line behind : List ℕ) : Type 0 where
  pub shorter : length behind < length text
  pub same : lines_of text ≡ line ∷ lines_of behind
