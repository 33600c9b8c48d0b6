-- How a call is refused, and the numbers of every answer.
use Rattle.std.specs.Prelude.{ℕ, ◌+◌, ◌*◌, Bool, ⊤, List, [], ◌∷◌, Result, Ok, Err}
use Rattle.rules.specs.declared.Refusal.{Refusal}
use Rattle.rules.specs.declared.Refusal.TheVariants.{RecordLength, Malformed, ImageLength, Lines, Room, Undefined, ScriptLength}
use Rattle.rules.specs.declared.Refusal.TheVariants.{FileLength, Admission, MapRecord, Vectors, Place, StoreAddress, Stack}
use Rattle.rules.specs.declared.Refusal.TheVariants.{Successor, ListLength, ListRecord, Total}
use Rattle.rules.specs.declared.Numbers.{Numbers}
use Rattle.rules.specs.declared.Found.{Found}
use Rattle.rules.specs.Basics.{when◌then◌else◌}

-- A test, and the refusal where it fails.
pub record Test : Type 0 where
  pub refusal : Refusal
  pub holds : Bool

infix 68 ◌unless◌
abbrev pub ◌unless◌ : Refusal → Bool → Test
e unless b = record { refusal = e; holds = b }

-- "in order": the first test that fails refuses; where none does, the answer is a
abbrev pub tested : {A : Type 0} → List Test → (Refusal → A) → A → A
tested [] refuse a = a
tested (t ∷ ts) refuse a = when t.holds then tested ts refuse a else refuse t.refusal

-- "Where an answer is an enum, a definition gives this paper's number and values for each case of the enum." A refusal has a number, and
-- perhaps a small and a large detail: "6 adds PC and opcode"; "11 and 13 to 16 add the record's index; all other details are 0".
abbrev pub plain : ℕ → Numbers
plain n = record { number = n; small = 0; large = 0 }

abbrev pub with_index : ℕ → ℕ → Numbers
with_index n i = record { number = n; small = 0; large = i }

abbrev pub numbers_of : Refusal → Numbers
numbers_of RecordLength = plain 1
numbers_of Malformed = plain 2
numbers_of ImageLength = plain 3
numbers_of Lines = plain 4
numbers_of Room = plain 5
numbers_of (Undefined pc opcode) = record { number = 6; small = opcode; large = pc }
numbers_of ScriptLength = plain 7
numbers_of FileLength = plain 8
numbers_of Admission = plain 10
numbers_of (MapRecord i) = with_index 11 i
numbers_of Vectors = plain 12
numbers_of (Place i) = with_index 13 i
numbers_of (StoreAddress i) = with_index 14 i
numbers_of (Stack i) = with_index 15 i
numbers_of (Successor i) = with_index 16 i
numbers_of ListLength = plain 20
numbers_of ListRecord = plain 21
numbers_of Total = plain 22

-- The board's 64-bit word: bits 0 to 7 the number, 8 to 15 the small detail, from 16 on the large one.
abbrev pub packed : Numbers → ℕ
packed n = n.number + 256 * n.small + 65536 * n.large

abbrev pub refusal_word : Refusal → ℕ
refusal_word e = packed (numbers_of e)

-- the word of an answer that has these numbers where nothing refuses
abbrev pub word_of : {A : Type 0} → (A → Numbers) → Result A Refusal → ℕ
word_of numbers (Ok a) = packed (numbers a)
word_of numbers (Err e) = refusal_word e

-- a step answers its number of accesses
abbrev pub step_word : Result ℕ Refusal → ℕ
step_word = word_of (λ n. record { number = 0; small = n; large = 0 })

-- a run: the steps done and the accesses listed, and its end, which is that of its script or a refusal
pub record RunAnswer : Type 0 where
  pub steps : ℕ
  pub listed : ℕ
  pub end : Result ⊤ Refusal

abbrev pub ended : ℕ → ℕ → Result ⊤ Refusal → RunAnswer
ended steps listed end = record { steps = steps; listed = listed; end = end }

-- 0 where nothing was refused
abbrev pub end_word : Result ⊤ Refusal → ℕ
end_word = word_of (λ x. plain 0)

-- beside the word a run gives the steps done and the accesses listed
pub record RunWords : Type 0 where
  pub word : ℕ
  pub steps : ℕ
  pub listed : ℕ

abbrev pub run_words : RunAnswer → RunWords
run_words a = record { word = end_word a.end; steps = a.steps; listed = a.listed }

abbrev pub restart_word : Result Found Refusal → ℕ
restart_word = word_of (λ f. record { number = 0; small = f.tail; large = f.at })

-- an append goes to a place
abbrev pub append_word : Result ℕ Refusal → ℕ
append_word = word_of (λ place. record { number = 0; small = 0; large = place })

-- a map is accepted, a list counted, or not
abbrev pub verdict_word : Result ⊤ Refusal → ℕ
verdict_word = end_word

abbrev pub count_word : Result ⊤ Refusal → ℕ
count_word = end_word
