-- What a line's characters are read as, one by one.
use Rattle.std.specs.Prelude.{ℕ, zero, suc, ◌+◌, ◌-◌, ◌*◌, Bool, ◌||◌, List, [], ◌∷◌, ltb, eqb}
use Prim.Native.Char.{code}
use Prim.Native.String.{String, [] as none, ◌∷◌ as ◌then◌}
use Rattle.rules.specs.Basics.{when◌then◌else◌}

abbrev pub said : String → List ℕ
said none = []
said (c then s) = code c ∷ said s

-- a character's place among 0 to 9 and A to Z, "small or large"; 36 is that of any other
abbrev pub place : ℕ → ℕ
place c =
    when ltb c 48 then 36 else when ltb c 58 then c - 48 else when ltb c 65 then 36 else when ltb c 91 then c - 55 else
    when ltb c 97 then 36 else when ltb c 123 then c - 87 else 36

-- what was read of a text, as a number; how many characters more could have been, and what follows
pub record Run : Type 0 where
  pub value : ℕ
  pub left : ℕ
  pub rest : List ℕ

-- at most k characters whose places are below a base, as a number of that base behind n
abbrev pub run : ℕ → ℕ → ℕ → List ℕ → Run
run base zero n s = record { value = n; left = 0; rest = s }
run base (suc k) n [] = record { value = n; left = suc k; rest = [] }
run base (suc k) n (c ∷ s) =
    when ltb (place c) base then run base k (n * base + place c) s else record { value = n; left = suc k; rest = c ∷ s }

-- "spaces and tabs may stand between words and at both ends"
abbrev pub is_space : ℕ → Bool
is_space c = eqb c (code " ") || eqb c (code "\t")

abbrev pub skip : List ℕ → List ℕ
skip [] = []
skip (c ∷ s) = when is_space c then skip s else c ∷ s

-- a character, and what follows; 256, which is none, stands for the end
pub record Next : Type 0 where
  pub character : ℕ
  pub rest : List ℕ

abbrev pub next_of : List ℕ → Next
next_of [] = record { character = 256; rest = [] }
next_of (c ∷ s) = record { character = c; rest = s }

-- the next character that is no space
abbrev pub next : List ℕ → Next
next s = next_of (skip s)
