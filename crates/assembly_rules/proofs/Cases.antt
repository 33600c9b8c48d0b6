-- Cases of the text's language, of each refusal, and of what is listed. The laws beside them name these claims, so that a definition that
-- says something else is refused here first.
use Prim.Native.Nat.{ℕ, ◌+◌, ◌-◌, ◌*◌}
use Prim.Native.String.{String}
use mathlib.Core.Path.{◌≡◌, refl}
use mathlib.Core.Bool.{Bool, ◌&&◌}
use mathlib.Core.List.{List, [], ◌∷◌, ◌++◌}
use lib.Dec.{eqb}
use lib.ListN.{length, replicate}
use Rattle.rules.specs.Opcodes.{decode}
use Rattle.rules.proofs.Examples.{same, failing}
use Rattle.assembly_rules.specs.Characters.{said}
use Rattle.assembly_rules.specs.Sums.{term}
use Rattle.assembly_rules.specs.Operands.{operand}
use Rattle.assembly_rules.specs.Mnemonics.{opcode_of, is_mnemonic}
use Rattle.assembly_rules.specs.Lines.{line_of}
use Rattle.assembly_rules.specs.Assembly.{lines_of, lines, Words, assemble_words}
use Rattle.assembly_rules.specs.Listing.{line_at, listed, list_words}

-- a buffer of n bytes
abbrev lent : ℕ → List ℕ
lent n = replicate n 0xFF

abbrev tells : Words → ℕ → List ℕ → Bool
tells w word left = eqb w.word word && same w.left left

-- some characters at 8000 make these bytes in a room of eight
abbrev make : List ℕ → List ℕ → Bool
make text bytes = tells (assemble_words text 0x8000 (lent 8)) (65536 * length bytes) (bytes ++ lent (8 - length bytes))

abbrev makes : String → List ℕ → Bool
makes s bytes = make (said s) bytes

-- or are refused so, in this line, and the buffer stays
abbrev refuse : List ℕ → ℕ → ℕ → Bool
refuse text number line = tells (assemble_words text 0x8000 (lent 8)) (number + 65536 * line) (lent 8)

abbrev refuses : String → ℕ → Bool
refuses s number = refuse (said s) number 1

-- a text with a number in k brackets
abbrev nested : String → ℕ → List ℕ
nested s k = said s ++ replicate k 91 ++ said "$1" ++ replicate k 93

pub texts : failing 1 (
    -- the modes as the data sheets write them
    makes "NOP" (0xEA ∷ [])
    ∷ makes "ASL A" (0x0A ∷ [])
    ∷ makes "LDA #$12" (0xA9 ∷ 0x12 ∷ [])
    ∷ makes "LDA $12" (0xA5 ∷ 0x12 ∷ [])
    ∷ makes "LDA $12,X" (0xB5 ∷ 0x12 ∷ [])
    ∷ makes "LDX $12,Y" (0xB6 ∷ 0x12 ∷ [])
    ∷ makes "LDA ($12,X)" (0xA1 ∷ 0x12 ∷ [])
    ∷ makes "LDA ($12),Y" (0xB1 ∷ 0x12 ∷ [])
    ∷ makes "BNE $8012" (0xD0 ∷ 0x10 ∷ [])
    ∷ makes "LDA $1234" (0xAD ∷ 0x34 ∷ 0x12 ∷ [])
    ∷ makes "LDA $1234,X" (0xBD ∷ 0x34 ∷ 0x12 ∷ [])
    ∷ makes "LDA $1234,Y" (0xB9 ∷ 0x34 ∷ 0x12 ∷ [])
    ∷ makes "JMP ($1234)" (0x6C ∷ 0x34 ∷ 0x12 ∷ [])
    ∷ makes "BYTE $02" (0x02 ∷ [])
    -- "A value under 256 takes the zero-page form where the operation has one"
    ∷ makes "LDA $012" (0xA5 ∷ 0x12 ∷ [])
    ∷ makes "LDA $12,Y" (0xB9 ∷ 0x12 ∷ 0x00 ∷ [])
    ∷ makes "JMP $12" (0x4C ∷ 0x12 ∷ 0x00 ∷ [])
    ∷ makes "LDA $FF" (0xA5 ∷ 0xFF ∷ [])
    ∷ makes "LDA $FF+$1" (0xAD ∷ 0x00 ∷ 0x01 ∷ [])
    -- "an address written with four digits alone takes the absolute form"
    ∷ makes "LDA $0012" (0xAD ∷ 0x12 ∷ 0x00 ∷ [])
    ∷ makes "LDA $0012,X" (0xBD ∷ 0x12 ∷ 0x00 ∷ [])
    ∷ makes "LDA [$0012]" (0xA5 ∷ 0x12 ∷ [])
    ∷ makes "LDA $0012+$0" (0xA5 ∷ 0x12 ∷ [])
    ∷ makes "LDA ($0012),Y" (0xB1 ∷ 0x12 ∷ [])
    ∷ makes "LDA #$0012" (0xA9 ∷ 0x12 ∷ [])
    -- sums
    ∷ makes "LDA #$5-$2-$1" (0xA9 ∷ 0x02 ∷ [])
    ∷ makes "LDA #$5-[$2-$1]" (0xA9 ∷ 0x04 ∷ [])
    ∷ makes "LDA $FFFF+$2" (0xA5 ∷ 0x01 ∷ [])
    ∷ makes "LDA $0-$FFFF" (0xA5 ∷ 0x01 ∷ [])
    -- lines, spaces, comments, small letters
    ∷ makes "" []
    ∷ makes " \t" []
    ∷ makes ";[]" []
    ∷ make (nested ";" 17) []
    ∷ makes "lda(\t$fF , x );x" (0xA1 ∷ 0xFF ∷ [])
    ∷ makes "LDA$1\nByte$ab\nasl a\n" (0xA5 ∷ 0x01 ∷ 0xAB ∷ 0x0A ∷ [])
    ∷ makes "NOP\r\n\r\n;\r\r\nNOP" (0xEA ∷ 0xEA ∷ [])
    -- branches at the edge
    ∷ makes "BNE $8081" (0xD0 ∷ 0x7F ∷ [])
    ∷ makes "BNE $7F82" (0xD0 ∷ 0x80 ∷ [])
    ∷ tells (assemble_words (said "BNE $0000") 0xFFFF (lent 2)) (2 * 65536) (0xD0 ∷ 0xFF ∷ [])
    -- "at most 16 deep"
    ∷ make (nested "LDA #" 16) (0xA9 ∷ 0x01 ∷ [])
    -- the room is used to its last byte
    ∷ makes "JMP $1\nJMP $1\nLDA #$1\n\n;" (0x4C ∷ 1 ∷ 0 ∷ 0x4C ∷ 1 ∷ 0 ∷ 0xA9 ∷ 1 ∷ [])
    ∷ []
    ) ≡ []
unfolding assemble_words lines lines_of line_of operand term opcode_of is_mnemonic
texts = refl

pub faults : failing 1 (
    -- 30
    refuses "FOO" 30
    ∷ refuses "ASLA" 30
    ∷ refuses "0LDA #$1" 30
    ∷ refuses "BYTEX" 30
    ∷ refuses "LDA 12" 30
    ∷ refuses "LDA $" 30
    ∷ refuses "LDA $ 1" 30
    ∷ refuses "LDA $12345" 30
    ∷ refuses "LDA -$1" 30
    ∷ refuses "LDA $1+" 30
    ∷ refuses "LDA []" 30
    ∷ refuses "LDA [$1" 30
    ∷ refuses "LDA $1]" 30
    ∷ refuses "LDA $1,Z" 30
    ∷ refuses "LDA $1,X X" 30
    ∷ refuses "LDA $1,Y X" 30
    ∷ refuses "LDA #" 30
    ∷ refuses "LDA #$1 $" 30
    ∷ refuses "LDA ($1" 30
    ∷ refuses "LDA ($1,Y)" 30
    ∷ refuses "LDA ($1,X" 30
    ∷ refuses "LDA ($1,X)X" 30
    ∷ refuses "LDA ($1),X" 30
    ∷ refuses "LDA ($1),Y X" 30
    ∷ refuses "LDA ($1)X" 30
    ∷ refuses "ASL A A" 30
    ∷ refuses "NOP $" 30
    ∷ refuses "NOP\r" 30
    ∷ refuses "NOP\rNOP" 30
    ∷ refuses ", NOP" 30
    ∷ refuses "BYTE" 30
    ∷ refuses "BYTE A" 30
    ∷ refuses "BYTE #$1" 30
    ∷ refuses "BYTE $1,X" 30
    ∷ refuses "BYTE $1,Y" 30
    ∷ refuses "BYTE ($1,X)" 30
    ∷ refuses "BYTE ($1),Y" 30
    ∷ refuses "BYTE ($1)" 30
    -- 31
    ∷ refuses "LDA" 31
    ∷ refuses "LDA A" 31
    ∷ refuses "NOP $1" 31
    ∷ refuses "STA #$1" 31
    ∷ refuses "JMP $1,X" 31
    ∷ refuses "LDA ($1)" 31
    ∷ refuses "JMP ($1,X)" 31
    ∷ refuses "LDA #$100" 31
    ∷ refuses "LDA ($100),Y" 31
    ∷ refuses "STX $100,Y" 31
    ∷ refuses "STX $0012,Y" 31
    ∷ refuses "BNE #$1" 31
    ∷ refuses "BYTE $100" 31
    -- 32
    ∷ refuses "BNE $8082" 32
    ∷ refuses "BNE $7F81" 32
    -- 33, "first"
    ∷ refuse (nested "LDA #" 17) 33 1
    ∷ refuse (said "FOO ]" ++ nested "" 17) 33 1
    ∷ refuse (nested "]" 16) 30 1
    ∷ refuse (said "[" ++ replicate 16 93 ++ nested "" 16) 30 1
    -- 34, behind the others
    ∷ refuse (said "JMP $1\nJMP $1\nJMP $1\nFOO") 34 3
    ∷ refuse (said "JMP $1\nJMP $1\nNOP\nLDA #$1") 34 4
    ∷ refuse (said "JMP $1\nJMP $1\nLDA #$1\nBNE $1") 32 4
    -- the first bad line
    ∷ refuse (said "NOP\n\nLDA\nFOO") 31 3
    ∷ []
    ) ≡ []
unfolding assemble_words lines lines_of line_of operand term opcode_of is_mnemonic
faults = refl

-- bytes at a start are listed so, in a room that is just enough, and refused in one less
abbrev lists : ℕ → List ℕ → String → Bool
lists start bytes s =
    let n = length (said s) in
    tells (list_words bytes start (lent (n + 1))) (65536 * n) (said s ++ lent 1) &&
    tells (list_words bytes start (lent n)) (65536 * n) (said s) && tells (list_words bytes start (lent (n - 1))) 34 (lent (n - 1))

pub listings : failing 1 (
    lists 0x8000 (0xEA ∷ 0x0A ∷ 0xA9 ∷ 0x1A ∷ 0xA5 ∷ 0x12 ∷ []) "NOP\nASL A\nLDA #$1A\nLDA $12\n"
    ∷ lists 0x8000 (0xB5 ∷ 0x12 ∷ 0xB6 ∷ 0x12 ∷ 0xA1 ∷ 0x12 ∷ []) "LDA $12,X\nLDX $12,Y\nLDA ($12,X)\n"
    ∷ lists 0x80FC (0xB1 ∷ 0x12 ∷ 0xD0 ∷ 0xFE ∷ 0xAD ∷ 0x12 ∷ 0x00 ∷ []) "LDA ($12),Y\nBNE $80FE\nLDA $0012\n"
    ∷ lists 0x8000 (0xBD ∷ 0x34 ∷ 0x12 ∷ 0xB9 ∷ 0x34 ∷ 0x12 ∷ []) "LDA $1234,X\nLDA $1234,Y\n"
    ∷ lists 0x8000 (0x6C ∷ 0x34 ∷ 0x12 ∷ 0x20 ∷ 0x34 ∷ 0x12 ∷ []) "JMP ($1234)\nJSR $1234\n"
    -- undefined, cut, and over the top
    ∷ lists 0x8000 (0x02 ∷ 0xAD ∷ 0x12 ∷ []) "BYTE $02\nBYTE $AD\nBYTE $12\n"
    ∷ lists 0xFFFF (0xD0 ∷ 0xFF ∷ 0x10 ∷ 0x80 ∷ []) "BNE $0000\nBPL $FF83\n"
    ∷ []
    ) ≡ []
unfolding list_words listed line_at decode
listings = refl
