-- A word tells a refusal from an answer.
use Prim.Native.Nat.{ℕ, ◌/◌, ◌%◌, ◌≤◌}
use native.Mathlib.Omega.{arith}
use mathlib.Core.Path.{◌≡◌, sym, ap, ◌∙◌}
use Rattle.std.specs.Prelude.{Result, Ok, Err}
use Rattle.rules.specs.declared.Refusal.{Refusal}
use Rattle.rules.specs.declared.Refusal.TheVariants.{RecordLength, Malformed, ImageLength, Lines, Room, Undefined, ScriptLength}
use Rattle.rules.specs.declared.Refusal.TheVariants.{FileLength, Admission, MapRecord, Vectors, Place, StoreAddress, Stack}
use Rattle.rules.specs.declared.Refusal.TheVariants.{Successor, ListLength, ListRecord, Total}
use Rattle.rules.specs.Answers.{numbers_of, refusal_word, step_word}

-- a refusal's number is 1 to 255
byte : (d : Refusal) → (1 ≤ (numbers_of d).number) × ((numbers_of d).number ≤ 255)
byte RecordLength = (omega arith, omega arith)
byte Malformed = (omega arith, omega arith)
byte ImageLength = (omega arith, omega arith)
byte Lines = (omega arith, omega arith)
byte Room = (omega arith, omega arith)
byte (Undefined pc opcode) = (omega arith, omega arith)
byte ScriptLength = (omega arith, omega arith)
byte FileLength = (omega arith, omega arith)
byte Admission = (omega arith, omega arith)
byte (MapRecord i) = (omega arith, omega arith)
byte Vectors = (omega arith, omega arith)
byte (Place i) = (omega arith, omega arith)
byte (StoreAddress i) = (omega arith, omega arith)
byte (Stack i) = (omega arith, omega arith)
byte (Successor i) = (omega arith, omega arith)
byte ListLength = (omega arith, omega arith)
byte ListRecord = (omega arith, omega arith)
byte Total = (omega arith, omega arith)

-- it is the low byte of its word
pub low : (d : Refusal) → refusal_word d % 256 ≡ (numbers_of d).number
low d = omega (arith, (byte d).0, (byte d).1)

-- and so its low byte is not 0
pub numbered : (d : Refusal) → refusal_word d % 256 ≡ 0 → ⊥
numbered d h = absurd (omega (arith, h, (byte d).0, (byte d).1))

-- nor is its word
pub nonzero : (d : Refusal) → refusal_word d ≡ 0 → ⊥
nonzero d h = numbered d (ap (λ (n : ℕ). n % 256) h)

-- the answer of a step whose word has the low byte 0
pub counted : (a : Result ℕ Refusal) (word : ℕ) → word ≡ step_word a → word % 256 ≡ 0 → a ≡ Ok (word / 256)
counted (Ok n) word e h = ap Ok (omega (arith, e))
counted (Err d) word e h = absurd (numbered d (ap (λ (w : ℕ). w % 256) (sym e) ∙ h))
