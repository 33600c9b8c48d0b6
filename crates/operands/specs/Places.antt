-- What the readers answer: places in a text, where the definitions have what is left of it.
use Rattle.std.specs.Prelude.{◌≡◌, ℕ, ◌≤◌, List, Option, Some, None, unwrap_or, length, drop}
use Rattle.assembly_rules.specs.Characters as characters
use Rattle.assembly_rules.specs.Sums.{Read, value, none}
use Rattle.operands.specs.declared.Word.{Word}
use Rattle.operands.specs.declared.Character.{Character}
use Rattle.operands.specs.declared.Found.{Found}

pub record Ran (r : characters.Run) (s : List ℕ) (a : Word) : Type 0 where
  pub same : r ≡ record { value = a.value; left = a.left; rest = drop a.at s }
  pub within : a.at ≤ length s

-- 256 stands for the end
pub record Ahead (n : characters.Next) (s : List ℕ) (a : Character) : Type 0 where
  pub same : n ≡ record { character = unwrap_or a.character 256; rest = drop a.at s }
  pub within : a.at ≤ length s

abbrev pub read_at : List ℕ → Found → Read
read_at s f = value f.value f.four (drop f.at s)

abbrev pub found : List ℕ → Option Found → Read
found s None = none
found s (Some f) = read_at s f

abbrev pub Inside : ℕ → Option Found → Type 0
Inside n None = Unit {0}
Inside n (Some f) = f.at ≤ n

pub record Finds (r : Read) (s : List ℕ) (a : Option Found) : Type 0 where
  pub same : r ≡ found s a
  pub within : Inside (length s) a
