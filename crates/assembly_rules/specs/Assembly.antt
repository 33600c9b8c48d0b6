-- What a text assembles to, and what the caller is told.
use Rattle.std.specs.Prelude.{ℕ, suc, ◌+◌, ◌*◌, ◌%◌, ◌^◌, Bool, false, ◌&&◌, List, [], ◌∷◌, ◌++◌, leb, eqb, length, Result, Ok, Err}
use Prim.Native.Char.{code}
use Rattle.rules.specs.Basics.{when◌then◌else◌, sum16}
use Rattle.rules.specs.Step.{front}
use Rattle.assembly_rules.specs.declared.Fault.{Fault}
use Rattle.assembly_rules.specs.declared.Fault.TheVariants.{NotALine, NoSuchMode, BranchTooFar, TooDeep, NoRoom}
use Rattle.assembly_rules.specs.declared.Line.{Line}
use Rattle.assembly_rules.specs.declared.Line.TheVariants.{Nothing, One, Two, Three}
use Rattle.assembly_rules.specs.declared.BadLine.{BadLine}
use Rattle.assembly_rules.specs.Lines.{line_of}

abbrev pub begins_with_lf : List ℕ → Bool
begins_with_lf [] = false
begins_with_lf (c ∷ s) = eqb c (code "\n")

-- a character in front of a text's lines
abbrev pub onto : ℕ → List (List ℕ) → List (List ℕ)
onto c [] = (c ∷ []) ∷ []
onto c (l ∷ ls) = (c ∷ l) ∷ ls

-- "A line ends with LF (a CR before it counts as space), the last may lack it"
unfoldable pub lines_of : List ℕ → List (List ℕ)
lines_of [] = []
lines_of (c ∷ s) =
    when eqb c (code "\n") then [] ∷ lines_of s
    else when eqb c (code "\r") && begins_with_lf s then lines_of s else onto c (lines_of s)

-- a text's bytes, or what is wrong and in which line
pub data Made : Type 0 where
  made : List ℕ → Made
  wrong : Fault → ℕ → Made

-- "34 no room": the bytes of line n behind those of the lines before it
abbrev pub fitted : ℕ → ℕ → List ℕ → (List ℕ → Made) → List ℕ → Made
fitted room n before go_on bytes = when leb (length before + length bytes) room then go_on (before ++ bytes) else wrong NoRoom n

abbrev pub judged : ℕ → ℕ → List ℕ → (List ℕ → Made) → Result Line Fault → Made
judged room n before go_on (Ok Nothing) = fitted room n before go_on []
judged room n before go_on (Ok (One a)) = fitted room n before go_on (a ∷ [])
judged room n before go_on (Ok (Two a b)) = fitted room n before go_on (a ∷ b ∷ [])
judged room n before go_on (Ok (Three a b c)) = fitted room n before go_on (a ∷ b ∷ c ∷ [])
judged room n before go_on (Err e) = wrong e n

-- Line n and those behind it, where the lines before made these bytes: "for the first bad line". "Addresses wrap at 65,536."
unfoldable pub lines : ℕ → ℕ → ℕ → List ℕ → List (List ℕ) → Made
lines start room n before [] = made before
lines start room n before (l ∷ ls) =
    judged room n before (λ bytes. lines start room (suc n) bytes ls) (line_of (sum16 start (length before)) l)

-- a text at a start, for a room of so many bytes
abbrev pub assembled : ℕ → ℕ → List ℕ → Made
assembled start room text = lines start room 1 [] (lines_of text)

-- "the first bad line": what the caller is told
abbrev pub answer : Made → Result ℕ BadLine
answer (made bytes) = Ok (length bytes)
answer (wrong e n) = Err (record { fault = e; line = n })

-- the lent bytes: "the output is then unchanged"
abbrev pub left : Made → List ℕ → List ℕ
left (made bytes) buffer = front bytes buffer
left (wrong e n) buffer = buffer

abbrev pub number_of : Fault → ℕ
number_of NotALine = 30
number_of NoSuchMode = 31
number_of BranchTooFar = 32
number_of TooDeep = 33
number_of NoRoom = 34

-- "from bit 16 on", which leaves 48 bits: a count is told modulo 2^48
abbrev pub told : ℕ → ℕ → ℕ
told number count = number + 65536 * (count % 2 ^ 48)

-- "done, how many bytes or characters were written; refused, the number of the bad line, from 1 (0 for the lister)"
abbrev pub assembly_word : Result ℕ BadLine → ℕ
assembly_word (Ok count) = told 0 count
assembly_word (Err bad) = told (number_of bad.fault) bad.line

-- a word, and what is left in the buffer that was lent
pub record Words : Type 0 where
  pub word : ℕ
  pub left : List ℕ

unfoldable pub assemble_words : List ℕ → ℕ → List ℕ → Words
assemble_words text start buffer =
    let m = assembled start (length buffer) text in record { word = assembly_word (answer m); left = left m buffer }
