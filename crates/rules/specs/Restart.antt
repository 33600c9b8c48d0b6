-- The restart file: state records in a row.
use Rattle.std.specs.Prelude.{ℕ, ◌+◌, ◌-◌, ◌*◌, ◌/◌, ◌%◌, ◌<◌, ◌≡◌, ◌&&◌, List, [], ◌∷◌, ◌++◌, leb, length, take, drop, Result, Ok, Err}
use Rattle.rules.specs.declared.Refusal.{Refusal}
use Rattle.rules.specs.declared.Refusal.TheVariants.{Malformed, FileLength}
use Rattle.rules.specs.declared.Found.{Found}
use Rattle.rules.specs.Record.{well_formed}
use Rattle.rules.specs.Answers.{Test, ◌unless◌, tested}

-- a file's length without its tail, and where its last whole record stands
abbrev pub whole_of : ℕ → ℕ
whole_of n = n / 16 * 16

abbrev pub last_of : ℕ → ℕ
last_of n = whole_of n - 16

abbrev pub record_at : List ℕ → ℕ → List ℕ
record_at file p = take 16 (drop p file)

-- "Restart: 8, then 2 for the last whole record"
abbrev pub restart_tests : List ℕ → List Test
restart_tests file =
    let n = length file in
    FileLength unless (leb 16 n && leb n 65536) ∷ Malformed unless well_formed (record_at file (last_of n)) ∷ []

-- "The reader answers the last whole record and how many tail bytes follow, 0 to 15."
unfoldable pub restart : List ℕ → Result Found Refusal
restart file = tested (restart_tests file) Err (Ok (record { at = last_of (length file); tail = length file % 16 }))

-- Where an append to a file of n bytes goes: it "drops a tail first and never takes the file past 65,536 bytes".
abbrev pub append_tests : ℕ → List Test
append_tests n = FileLength unless leb (whole_of n + 16) 65536 ∷ []

unfoldable pub append_at : ℕ → Result ℕ Refusal
append_at n = tested (append_tests n) Err (Ok (whole_of n))

-- the records, the last one first, that stand whole in the first k bytes of their file
abbrev pub standing : ℕ → List (List ℕ) → List (List ℕ)
standing k rs = drop (length rs - k / 16) rs

-- A file that appends and power dips made, from nothing, in which these records, completely written, stand, the last one first. An append
-- that is cut leaves fewer than sixteen bytes t in its place: the first ones of its record, none, or, while a tail is being dropped, what
-- is left of that. And the file may lose its end at any time, to any prefix of it, and older records with it.
pub data Grown : List (List ℕ) → List ℕ → Type 0 where
  empty : Grown [] []
  done : {rs : List (List ℕ)} {file : List ℕ} (r : List ℕ) (p : ℕ) → Grown rs file → append_at (length file) ≡ Ok p → length r ≡ 16 →
      Grown (r ∷ rs) (take p file ++ r)
  cut : {rs : List (List ℕ)} {file : List ℕ} (t : List ℕ) (p : ℕ) → Grown rs file → append_at (length file) ≡ Ok p → length t < 16 →
      Grown rs (take p file ++ t)
  lost : {rs : List (List ℕ)} {file : List ℕ} (k : ℕ) → Grown rs file → Grown (standing k rs) (take k file)
