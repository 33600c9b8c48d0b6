-- A line by the instruction that stands there whole: that it says what the rules say is one computed test, proofs/Laws.antt. And how a
-- line stands in twelve characters, and a text in a buffer.
use Rattle.std.specs.Prelude.{◌≡◌, ℕ, ◌+◌, ◌≤◌, leb, List, [], ◌∷◌, ◌++◌, length, take, ◌==◌, nat_le, nat_lt, Option, Some, None, Result}
use Prim.Native.Char.{code}
use Rattle.rules.specs.Basics.{when◌then◌else◌, at}
use Rattle.rules.specs.Opcodes.{decode, instruction_of}
use Rattle.rules.specs.Step.{front}
use Rattle.rules.specs.Text.{hex}
use Rattle.assembly_rules.specs.declared.Shape.{Shape}
use Rattle.assembly_rules.specs.declared.Fault.{Fault}
use Rattle.assembly_rules.specs.Characters.{said}
use Rattle.assembly_rules.specs.Mnemonics.{name_of, shape_of, numbered}
use Rattle.assembly_rules.specs.Listing.{letters_of, operand_text, listing}
use Rattle.source.specs.declared.Found.{Found}

-- "One or two bytes follow": the shapes are numbered by how many
abbrev pub size_by : Shape → ℕ
size_by s = when nat_lt (numbered s) 2 then 1 else when nat_lt (numbered s) 9 then 2 else 3

-- the instruction that some bytes begin with, where it has a name and all its bytes are there
abbrev pub find_in : List ℕ → Option Found
find_in bytes =
    let i = instruction_of (decode (at bytes 0)) (at bytes 1) (at bytes 2) in
    when name_of i == 0 then None
    else when nat_le (size_by (shape_of i)) (length bytes) then Some (record { name = name_of i; shape = shape_of i }) else None

-- its bytes, or the one that starts none
abbrev pub size_with : Option Found → ℕ
size_with None = 1
size_with (Some f) = size_by f.shape

-- its line's characters with the LF
abbrev pub count_with : Option Found → ℕ
count_with None = 9
count_with (Some f) = 4 + length (operand_text 0 0 0 f.shape)

abbrev pub text_with : ℕ → List ℕ → Option Found → List ℕ
text_with a bytes None = said "BYTE $" ++ hex (at bytes 0)
text_with a bytes (Some f) = letters_of f.name ++ operand_text a (at bytes 1) (at bytes 2) f.shape

-- a line's characters and its LF, so many, at the front of some bytes
pub record Spells (line : List ℕ) (count : ℕ) (bytes : List ℕ) : Type 0 where
  pub within : count ≤ length bytes
  pub characters : count ≡ length line + 1
  pub text : take count bytes ≡ line ++ code "\n" ∷ []

-- the answer, and the buffer: a text at its front where it fits
pub record Lists (l : List ℕ) (r : Result ℕ Fault) (t t' : List ℕ) : Type 0 where
  pub answer : r ≡ listing (length l) (length t)
  pub text : t' ≡ (when leb (length l) (length t) then front l t else t)
