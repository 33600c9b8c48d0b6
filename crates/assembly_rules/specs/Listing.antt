-- What bytes are listed as.
use Rattle.std.specs.Prelude.{ℕ, zero, suc, ◌/◌, ◌%◌, ◌&&◌, List, [], ◌∷◌, ◌++◌, leb, length, drop, Result, Ok, Err}
use Prim.Native.Char.{code}
use Rattle.rules.specs.declared.Instruction.{Instruction}
use Rattle.rules.specs.Basics.{when◌then◌else◌, at, sum16}
use Rattle.rules.specs.Opcodes.{decode, size_of, is_defined, instruction_of}
use Rattle.rules.specs.Operations.{target}
use Rattle.rules.specs.Step.{front}
use Rattle.rules.specs.Text.{digit, hex}
use Rattle.assembly_rules.specs.declared.Shape.{Shape}
use Rattle.assembly_rules.specs.declared.Shape.TheVariants as shape
use Rattle.assembly_rules.specs.declared.Fault.{Fault}
use Rattle.assembly_rules.specs.declared.Fault.TheVariants.{NoRoom}
use Rattle.assembly_rules.specs.Characters.{said}
use Rattle.assembly_rules.specs.Mnemonics.{name_of, shape_of}
use Rattle.assembly_rules.specs.Assembly.{number_of, told, Words}

-- "one space after the mnemonic and no other", "large letters": a mnemonic's three
abbrev pub letters_of : ℕ → List ℕ
letters_of m = digit (m / 1296 % 36) ∷ digit (m / 36 % 36) ∷ digit (m % 36) ∷ []

-- "a byte operand with two digits, an address and a branch's target with four", of an instruction at address a
abbrev pub operand_text : ℕ → ℕ → ℕ → Shape → List ℕ
operand_text a low high shape.Implied = []
operand_text a low high shape.Accumulator = said " A"
operand_text a low high shape.Immediate = said " #$" ++ hex low
operand_text a low high shape.Zero = said " $" ++ hex low
operand_text a low high shape.ZeroX = said " $" ++ hex low ++ said ",X"
operand_text a low high shape.ZeroY = said " $" ++ hex low ++ said ",Y"
operand_text a low high shape.IndirectX = said " ($" ++ hex low ++ said ",X)"
operand_text a low high shape.IndirectY = said " ($" ++ hex low ++ said "),Y"
operand_text a low high shape.Relative = let to = target (sum16 a 2) low in said " $" ++ hex (to / 256) ++ hex (to % 256)
operand_text a low high shape.Absolute = said " $" ++ hex high ++ hex low
operand_text a low high shape.AbsoluteX = said " $" ++ hex high ++ hex low ++ said ",X"
operand_text a low high shape.AbsoluteY = said " $" ++ hex high ++ hex low ++ said ",Y"
operand_text a low high shape.Indirect = said " ($" ++ hex high ++ hex low ++ said ")"

-- a line without its LF, and how many bytes it is of
pub record Listed : Type 0 where
  pub size : ℕ
  pub text : List ℕ

abbrev pub instruction_line : ℕ → ℕ → ℕ → Instruction → List ℕ
instruction_line a low high i = letters_of (name_of i) ++ operand_text a low high (shape_of i)

-- "a byte that starts no whole instruction is listed as a line of BYTE and its value"
unfoldable pub line_at : ℕ → List ℕ → Listed
line_at a bytes =
    let e = decode (at bytes 0) in
    let low = at bytes 1 in
    let high = at bytes 2 in
    when is_defined e && leb (size_of e) (length bytes) then
    record { size = size_of e; text = instruction_line a low high (instruction_of e low high) }
    else record { size = 1; text = said "BYTE $" ++ hex (at bytes 0) }

-- "a LF after each line"; at most k lines, of which there are no more than bytes
unfoldable pub listed : ℕ → ℕ → List ℕ → List ℕ
listed zero a bytes = []
listed (suc k) a [] = []
listed (suc k) a (b ∷ bytes) =
    let l = line_at a (b ∷ bytes) in
    l.text ++ code "\n" ∷ listed k (sum16 a l.size) (drop l.size (b ∷ bytes))

abbrev pub text_of : ℕ → List ℕ → List ℕ
text_of start bytes = listed (length bytes) start bytes

-- "34 no room (the lister's only one)"
abbrev pub listing : ℕ → ℕ → Result ℕ Fault
listing size room = when leb size room then Ok size else Err NoRoom

abbrev pub listing_word : Result ℕ Fault → ℕ
listing_word (Ok size) = told 0 size
listing_word (Err e) = told (number_of e) 0

unfoldable pub list_words : List ℕ → ℕ → List ℕ → Words
list_words bytes start buffer =
    let text = text_of start bytes in
    record {
      word = listing_word (listing (length text) (length buffer));
      left = when leb (length text) (length buffer) then front text buffer else buffer;
    }
