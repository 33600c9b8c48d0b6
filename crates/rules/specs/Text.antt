-- The step printer: what is printed for an input, byte by byte.
use Rattle.std.specs.Prelude.{ℕ, zero, suc, ◌+◌, ◌-◌, ◌*◌, ◌/◌, ◌%◌, List, [], ◌∷◌, ◌++◌, ltb, leb, eqb, length, take, drop, replicate}
use Rattle.std.specs.Prelude.{Result, Ok, Err}
use Prim.Native.Char.{code}
use Rattle.rules.specs.declared.Refusal.{Refusal}
use Rattle.rules.specs.declared.Refusal.TheVariants.{RecordLength, Malformed, ImageLength}
use Rattle.rules.specs.Basics.{when◌then◌else◌, at}
use Rattle.rules.specs.Bus.{Memory, images}
use Rattle.rules.specs.Record.{well_formed}
use Rattle.rules.specs.Answers.{Test, ◌unless◌, tested, numbers_of}
use Rattle.rules.specs.Step.{Outcome, step}

-- 0 to 9, A to F
abbrev pub digit : ℕ → ℕ
digit n = when ltb n 10 then code "0" + n else code "A" + (n - 10)

-- a byte in hexadecimal
abbrev pub hex : ℕ → List ℕ
hex v = digit (v / 16) ∷ digit (v % 16) ∷ []

-- a number in decimal, of at most k digits
unfoldable pub digits : ℕ → ℕ → List ℕ
digits zero n = []
digits (suc k) n = when ltb n 10 then digit n ∷ [] else digits k (n / 10) ++ digit (n % 10) ∷ []

-- a number of 64 bits
abbrev pub decimal : ℕ → List ℕ
decimal n = digits 20 n

-- f 0, f 1 and so on, n of them
unfoldable pub each : ℕ → (ℕ → List ℕ) → List ℕ
each zero f = []
each (suc n) f = each n f ++ f n

-- "0 read or 1 write"
abbrev pub letter : ℕ → ℕ
letter kind = when eqb kind 0 then code "R" else code "W"

-- "R or W, bank (one hexadecimal digit), address, value"; a bank is "four bits". Document 02: the purpose, "the digit last on each access
-- line".
unfoldable pub access_line : ℕ → ℕ → ℕ → ℕ → ℕ → ℕ → List ℕ
access_line kind bank high low value purpose =
    letter kind ∷ code " " ∷ digit (bank % 16) ∷ code " " ∷ hex high ++ hex low ++ code " " ∷ hex value ++
    code " " ∷ digit (purpose % 16) ∷ code "\n" ∷ []

-- that of access k of a list: "address low, high, selected bank .. value, 0 read or 1 write", and its purpose
abbrev pub line_of : List ℕ → ℕ → List ℕ
line_of l k = let p = 8 * k in access_line (at l (p + 4)) (at l (p + 2)) (at l (p + 1)) (at l p) (at l (p + 3)) (at l (p + 5))

-- a space and a number
abbrev pub spaced : ℕ → List ℕ
spaced n = code " " ∷ decimal n

-- a letter and a number
unfoldable pub number_line : ℕ → ℕ → List ℕ
number_line letter n = letter ∷ spaced n ++ code "\n" ∷ []

-- "then N and the count in decimal"
abbrev pub count_line : ℕ → List ℕ
count_line n = number_line (code "N") n

-- a record's bytes
abbrev pub bytes_text : List ℕ → List ℕ
bytes_text r = each 16 (λ k. hex (at r k))

-- "then S and the new record"
unfoldable pub record_line : List ℕ → List ℕ
record_line r = code "S" ∷ code " " ∷ bytes_text r ++ code "\n" ∷ []

-- "A refusal prints only E and its number"
abbrev pub refusal_line : Refusal → List ℕ
refusal_line e = number_line (code "E") (numbers_of e).number

-- what is printed of a step
abbrev pub step_text : Result ℕ Refusal → List ℕ → List ℕ → List ℕ
step_text (Ok n) r l = each n (line_of l) ++ count_line n ++ record_line r
step_text (Err e) r l = refusal_line e

-- "an input under 16 bytes is 1, another wrong length 3, after 2"
abbrev pub input_tests : ℕ → List ℕ → List Test
input_tests size r = RecordLength unless leb 16 size ∷ Malformed unless well_formed r ∷ ImageLength unless eqb size 65554 ∷ []

-- "record, lines, pins, image"
module _ {M : Type 0} (memory : Memory M) (r : List ℕ) (lines pins : ℕ) (m : M) where
  -- one step, with room for its accesses
  abbrev pub step_of : Outcome (Result ℕ Refusal) M
  step_of = step memory r m lines pins (replicate 56 0)

  -- what is printed for an input of so many bytes
  unfoldable pub text_of : ℕ → List ℕ
  text_of size = tested (input_tests size r) refusal_line (step_text step_of.answer step_of.state step_of.accesses)

-- what is printed for an input
abbrev pub printed : List ℕ → List ℕ
printed i = text_of images (take 16 i) (at i 16) (at i 17) (drop 18 i) (length i)
