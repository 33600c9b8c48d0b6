-- Document 01's example and others, computed as one claim on charts, and what they say of an input's bytes.
use Prim.Native.Nat.{ℕ, ◌+◌}
use Prim.Native.String.{String}
use native.Mathlib.Omega.{arith}
use mathlib.Core.Path.{◌≡◌, refl, subst, ◌∙◌}
use mathlib.Core.Bool.{Bool}
use mathlib.Core.List.{List, [], ◌∷◌, ◌++◌}
use lib.ListN.{length, drop, set, replicate, length-append}
use lib.Seq.{take_at, drop-append-add, get_or-append-add}
use Rattle.rules.specs.Basics.{at}
use Rattle.rules.specs.Bus.{Chart, images, charts}
use Rattle.laws.proofs.Images.{Holds, step_same}
use Rattle.rules.proofs.Opened.{opened}
use Rattle.rules.proofs.Examples.{same, said, failing, zeros, ◌from◌holds◌, state, registers}
use Rattle.rules.specs.Text.{digits, each, access_line, number_line, record_line, text_of, printed}

-- the text for an input of this size, and for one that is whole
abbrev sized : ℕ → List ℕ → Chart → ℕ → ℕ → String → Bool
sized size r m lines pins s = same (text_of charts r lines pins m size) (said s)

abbrev whole : List ℕ → Chart → ℕ → ℕ → String → Bool
whole = sized 65554

-- the same, where the text is written as its accesses and what follows them
abbrev seven : List ℕ → Chart → ℕ → ℕ → String → String → Bool
seven r m lines pins s t = same (text_of charts r lines pins m 65554) (said s ++ said t)

-- "Record 02 00 00 00 FF 24 00 80 and eight zeros; .. image zero but 8000 A5 10, 0010 42"
abbrev paper : List ℕ
paper = state 2 0 0 0xFF 0x24 0x8000

abbrev loads : Chart
loads = zeros 1 from 0x8000 holds (0xA5 ∷ 0x10 ∷ []) from 0x0010 holds (0x42 ∷ [])

abbrev papers : String
papers = "R 0 8000 A5 1\nR 0 8001 10 2\nR 0 0010 42 5\nN 3\nS 02420000FF2402800000000003000000\n"

-- image zero but these bytes at 8000
abbrev program : List ℕ → Chart
program l = zeros 1 from 0x8000 holds l

texts : List Bool
texts =
    -- 1 the document's
    whole paper loads 0 0 papers
    -- 2 an IRQ
    ∷ seven (state 2 7 0 0xFF 0x20 0x8000) (program (0xEA ∷ []) from 0xFFFE holds (0x34 ∷ 0x12 ∷ [])) 4 0
    "R 0 8000 EA 3\nR 0 8000 EA 3\nW 0 01FF 80 6\nW 0 01FE 00 6\nW 0 01FD 20 6\nR 0 FFFE 34 7\nR 0 FFFF 12 7\n"
    "N 7\nS 02070000FC2434120000000007000000\n"
    -- 3 a 6508 reads its port: "direction 0F, output A5, pins 5A: reads 55"
    ∷ whole (registers 0x0F 0xA5 (state 8 7 0 0xFF 0x20 0x8000)) (program (0xA5 ∷ 0x01 ∷ [])) 0 0x5A
    "R 0 8000 A5 1\nR 0 8001 01 2\nR 0 0001 55 5\nN 3\nS 08550000FF2002800FA5000003000000\n"
    -- 4 "6509, execution bank 2, E6 00: writes 02, then 03; bank 3 next"
    ∷ whole (registers 2 0 (state 9 7 0 0xFF 0x20 0x8000)) (program (0xE6 ∷ 0x00 ∷ [])) 0 0
    "R 2 8000 E6 1\nR 2 8001 00 2\nR 2 0000 02 5\nW 2 0000 02 3\nW 2 0000 03 5\nN 5\nS 09070000FF2002800300000005000000\n"
    -- 5 RES of a 6509: "6509 registers 15, both before its first access"
    ∷ seven (registers 2 0 (state 9 0 0 0xFF 0x20 0x8000)) (program (0xEA ∷ []) from 0xFFFD holds (0x90 ∷ [])) 1 0
    "R F 8000 EA 3\nR F 8000 EA 3\nR F 01FF 00 6\nR F 01FE 00 6\nR F 01FD 00 6\nR F FFFC 00 7\nR F FFFD 90 7\n"
    "N 7\nS 09000000FC2400900F0F000007000000\n"
    -- 6 "an input under 16 bytes is 1, another wrong length 3, after 2"
    ∷ sized 15 paper loads 0 0 "E 1\n"
    ∷ sized 16 paper loads 0 0 "E 3\n"
    ∷ sized 65555 paper loads 0 0 "E 3\n"
    ∷ sized 16 (set paper 5 0) loads 0 0 "E 2\n"
    ∷ whole (set paper 5 0) loads 0 0 "E 2\n"
    -- 11 lines; an undefined opcode
    ∷ whole paper loads 8 0 "E 4\n"
    ∷ whole paper (program (0x02 ∷ [])) 0 0 "E 6\n"
    ∷ []

examples : failing 1 texts ≡ []
unfolding opened texts each digits access_line number_line record_line text_of
examples = refl

-- the text of a chart is the text of any image that holds the same bytes
pub text_same : (r : List ℕ) (lines pins : ℕ) (m : List ℕ) (f : Chart) (size : ℕ) → Holds m f →
    text_of images r lines pins m size ≡ text_of charts r lines pins f size
unfolding text_of
text_same r lines pins m f size h =
    let s = step_same r m f lines pins (replicate 56 0) h in rw (s.answer, s.state, s.accesses)

-- "standard input is record, lines, pins, image"
pub printed_parts : (r m : List ℕ) (lines pins : ℕ) → length r ≡ 16 →
    printed (r ++ lines ∷ pins ∷ m) ≡ text_of images r lines pins m (length m + 18)
printed_parts r m lines pins e =
    let i = r ++ lines ∷ pins ∷ m in
    let behind : (k n : ℕ) → length r + k ≡ n → at i n ≡ at (lines ∷ pins ∷ m) k =
    λ k n q. subst (λ (x : ℕ). at i x ≡ at (lines ∷ pins ∷ m) k) q (get_or-append-add r (lines ∷ pins ∷ m) k 0) in
    let two : length r + 2 ≡ 18 = omega arith in
    let rest : drop 18 i ≡ m = subst (λ (x : ℕ). drop x i ≡ m) two (drop-append-add r (lines ∷ pins ∷ m) 2) in
    let size : length i ≡ length m + 18 = rw (length-append r (lines ∷ pins ∷ m)) (omega arith) in
    rw (size, take_at r (lines ∷ pins ∷ m) 16 e, behind 0 16 (omega arith), behind 1 17 (omega arith), rest)

-- the document's example, of an input's bytes
pub document : (m : List ℕ) → Holds m loads → printed (paper ++ 0 ∷ 0 ∷ m) ≡ said papers
unfolding opened each digits access_line number_line record_line text_of
document m h = printed_parts paper m 0 0 refl ∙ text_same paper 0 0 m loads (length m + 18) h ∙ (rw h.size)
