-- Cases of admission, each of a sentence that could be misread.
use Prim.Native.Nat.{ℕ, ◌+◌, ◌*◌}
use mathlib.Core.Path.{◌≡◌, refl}
use mathlib.Core.Bool.{Bool}
use mathlib.Core.List.{List, [], ◌∷◌, ◌++◌}
use lib.ListN.{set, replicate}
use Rattle.rules.specs.Bus.{Chart, charts}
use Rattle.rules.specs.Answers.{verdict_word}
use Rattle.rules.proofs.Opened.{opened}
use Rattle.rules.proofs.Examples.{same, failing, zeros, ◌from◌holds◌}
use Rattle.admission_rules.specs.Admission.{mark_tests, vectors_hold, rules_at, admit}

-- A firmware of page FF, with c = 1, and its map: main at FF00, a routine at FF20, a handler at FF30.

-- an image of k banks, with the vectors FF00 and FF00 + h
abbrev page : ℕ → ℕ → Chart
page k h = zeros k from 0xFFFC holds (0x00 ∷ 0xFF ∷ h ∷ 0xFF ∷ [])

abbrev firmware : ℕ → Chart
firmware k =
    page k 0x30
    -- LDX #FF, TXS, JSR FF20, PHA, PLA, BEQ FF00, STA 0200, JMP FF00
    from 0xFF00 holds (0xA2 ∷ 0xFF ∷ 0x9A ∷ 0x20 ∷ 0x20 ∷ 0xFF ∷ 0x48 ∷ 0x68 ∷ 0xF0 ∷ 0xF6 ∷ 0x8D ∷ 0x00 ∷ 0x02 ∷ 0x4C ∷ 0x00 ∷ 0xFF ∷ [])
    -- PHP, PLA, INC 0200,X, RTS
    from 0xFF20 holds (0x08 ∷ 0x68 ∷ 0xFE ∷ 0x00 ∷ 0x02 ∷ 0x60 ∷ [])
    -- RTI
    from 0xFF30 holds (0x40 ∷ [])

abbrev mark : ℕ → ℕ → ℕ → ℕ → List ℕ
mark low kind height need = low ∷ 0xFF ∷ kind ∷ height ∷ need ∷ 0 ∷ 0 ∷ 0 ∷ []

abbrev marks : List ℕ
marks =
    mark 0x00 1 0 3 ++ mark 0x02 1 0 3 ++ mark 0x03 1 0 3 ++ mark 0x06 1 0 3 ++ mark 0x07 1 1 2 ++ mark 0x08 1 0 3 ++ mark 0x0A 1 0 3 ++
    mark 0x0D 1 0 3 ++ mark 0x20 2 0 1 ++ mark 0x21 2 1 0 ++ mark 0x22 2 0 1 ++ mark 0x25 2 0 1 ++ mark 0x30 3 0 0

abbrev judged : Chart → ℕ → List ℕ → ℕ
judged m c map = verdict_word (admit charts m c map)

-- with byte j of mark i changed to v, with other bytes from FF00 + i on, and both
abbrev with : ℕ → ℕ → ℕ → List ℕ → List ℕ
with i j v map = set map (8 * i + j) v

abbrev both : ℕ → List ℕ → List ℕ → ℕ
both i bytes map = judged (firmware 1 from 0xFF00 + i holds bytes) 1 map

abbrev marking : ℕ → ℕ → ℕ → ℕ
marking i j v = judged (firmware 1) 1 (with i j v marks)

abbrev code : ℕ → List ℕ → ℕ
code i bytes = both i bytes marks

-- with a first record of main at FE00, in no protected page, and these bytes there
abbrev below : List ℕ → ℕ
below bytes = judged (firmware 1 from 0xFE00 holds bytes) 1 (set (mark 0x00 1 0 0) 1 0xFE ++ marks)

-- refused by this number at this record
abbrev number : ℕ → ℕ → ℕ
number n i = n + 65536 * i

-- "Admitted, c = 1: FF00 A2 FF 9A 58 4C 04 FF 40, vectors FF00 and FF07, map FF00 FF02 FF03 FF04 main, FF07 handler, all 0."
abbrev paper : ℕ → ℕ → ℕ
paper last need =
    judged (page 1 0x07 from 0xFF00 holds (0xA2 ∷ 0xFF ∷ 0x9A ∷ 0x58 ∷ 0x4C ∷ 0x04 ∷ 0xFF ∷ last ∷ [])) 1
    (mark 0x00 1 0 need ++ mark 0x02 1 0 need ++ mark 0x03 1 0 need ++ mark 0x04 1 0 need ++ mark 0x07 3 0 0)

-- a handler at FF4C: its vector's low byte is a JMP at FFFE
abbrev wraps : ℕ
wraps =
    judged (page 1 0x4C from 0xFF00 holds (0x4C ∷ 0x00 ∷ 0xFF ∷ []) from 0xFF4C holds (0x40 ∷ [])) 1
    (mark 0x00 1 0 0 ++ mark 0x4C 3 0 0 ++ mark 0xFE 1 0 0)

abbrev pub maps : List Bool
maps =
    -- 1 the document's: admitted; with 60 at FF07: 15, index 4; needs 253 and 0 pass, 254 and 0 don't
    same (paper 0x40 0 ∷ paper 0x60 0 ∷ paper 0x40 253 ∷ paper 0x40 254 ∷ []) (0 ∷ number 15 4 ∷ 0 ∷ 12 ∷ [])
    -- 2 the firmware above; 10: image length, c, map length
    ∷ same (judged (firmware 1) 1 marks ∷ judged (firmware 2) 1 marks ∷ judged (firmware 1) 0 marks ∷ []) (0 ∷ 10 ∷ 10 ∷ [])
    ∷ same (judged (firmware 1) 255 marks ∷ judged (firmware 1) 254 marks ∷ []) (10 ∷ 0 ∷ [])
    ∷ same (judged (firmware 1) 1 [] ∷ judged (firmware 1) 1 (0 ∷ marks) ∷ []) (10 ∷ 10 ∷ [])
    -- 5 11: kind, zeros, ascending
    ∷ same (marking 2 2 0 ∷ marking 2 2 4 ∷ []) (number 11 2 ∷ number 11 2 ∷ [])
    ∷ same (marking 2 5 1 ∷ marking 2 6 1 ∷ marking 2 7 1 ∷ marking 2 0 0x02 ∷ []) (replicate 4 (number 11 2))
    -- 7 12: the vectors' kinds and heights
    ∷ same (marking 0 2 2 ∷ marking 0 3 1 ∷ marking 12 2 1 ∷ marking 12 3 1 ∷ []) (12 ∷ 12 ∷ 12 ∷ 12 ∷ [])
    -- 8 13: undefined, BRK, PLP; JMP (a), 81, 91
    ∷ same (code 2 (0x02 ∷ []) ∷ code 2 (0x00 ∷ []) ∷ code 2 (0x28 ∷ []) ∷ [])
    (number 13 1 ∷ number 13 1 ∷ number 13 1 ∷ [])
    ∷ same (code 13 (0x6C ∷ []) ∷ code 8 (0x81 ∷ []) ∷ code 8 (0x91 ∷ []) ∷ [])
    (number 13 7 ∷ number 13 5 ∷ number 13 5 ∷ [])
    -- 10 in no protected page; JMP at FFFE, past FFFF; BMI at FFFE, whose next address is 0000, is 16
    ∷ same (below [] ∷ wraps ∷ judged (firmware 1) 1 (marks ++ mark 0xFE 1 0 0) ∷ [])
    (number 13 0 ∷ number 13 2 ∷ number 16 13 ∷ [])
    -- 11 14: STA 0100, 01FF, 00FF; INC 0001,X, 01FF,X, 0000,X; STA 0001,Y, 01FF,Y, 0000,Y
    ∷ same (code 12 (0x01 ∷ []) ∷ code 11 (0xFF ∷ 0x01 ∷ []) ∷ code 11 (0xFF ∷ 0x00 ∷ []) ∷ []) (number 14 6 ∷ number 14 6 ∷ 0 ∷ [])
    ∷ same (code 35 (0x01 ∷ 0x00 ∷ []) ∷ code 35 (0xFF ∷ 0x01 ∷ []) ∷ code 35 (0x00 ∷ 0x00 ∷ []) ∷ [])
    (number 14 10 ∷ number 14 10 ∷ 0 ∷ [])
    ∷ same (code 10 (0x99 ∷ 0x01 ∷ 0x00 ∷ []) ∷ code 10 (0x99 ∷ 0xFF ∷ 0x01 ∷ []) ∷ code 10
    (0x99 ∷ 0x00 ∷ 0x00 ∷ []) ∷ [])
    (number 14 6 ∷ number 14 6 ∷ 0 ∷ [])
    -- 14 15: RTS in main, RTI and TXS and CLI in a routine, RTS in a handler, PLA at height 0; at height 1 RTS, TXS and RTI
    ∷ same (code 2 (0x60 ∷ []) ∷ code 33 (0x40 ∷ []) ∷ code 33 (0x9A ∷ []) ∷ [])
    (number 15 1 ∷ number 15 9 ∷ number 15 9 ∷ [])
    ∷ same (code 33 (0x58 ∷ []) ∷ code 48 (0x60 ∷ []) ∷ code 2 (0x68 ∷ []) ∷ [])
    (number 15 9 ∷ number 15 12 ∷ number 15 1 ∷ [])
    ∷ same (code 33 (0x60 ∷ []) ∷ code 7 (0x9A ∷ []) ∷ both 48 (0x48 ∷ 0x40 ∷ [])
    (with 12 4 1 marks ++ mark 0x31 3 1 0) ∷ [])
    (number 15 9 ∷ number 15 4 ∷ number 15 13 ∷ [])
    -- 17 16: next address unmarked, of another kind, height, need; branch and jump target; JSR's target no routine, or its need
    ∷ same (code 0 (0xEA ∷ []) ∷ marking 3 2 2 ∷ marking 3 3 1 ∷ marking 3 4 4 ∷ [])
    (number 16 0 ∷ number 16 2 ∷ number 16 2 ∷ number 16 2 ∷ [])
    ∷ same (code 9 (0xF7 ∷ []) ∷ code 14 (0x01 ∷ []) ∷ code 4 (0x30 ∷ []) ∷ marking 8 4 2 ∷ [])
    (number 16 5 ∷ number 16 7 ∷ number 16 2 ∷ number 16 2 ∷ [])
    -- 19 16: PHA's successor as high, or in as much need; PLA's not lower, or in more need
    ∷ same (marking 4 3 0 ∷ marking 4 4 3 ∷ marking 5 3 1 ∷ marking 4 4 1 ∷ [])
    (number 16 3 ∷ number 16 3 ∷ number 16 4 ∷ number 16 4 ∷ [])
    ∷ []

pub computed_maps : failing 1 maps ≡ []
unfolding opened mark_tests vectors_hold rules_at admit
computed_maps = refl

-- "Admission: 10; 11, first record; 12; then the lowest record, and at it the lowest number.": two rules are broken at once
abbrev pub orders : List Bool
orders =
    -- 1 10 and 11, two records by 11, 11 and 12, 12 and 13
    same (judged (firmware 1) 0 (with 2 2 0 marks) ∷ judged (firmware 1) 1 (with 2 2 0 (with 5 2 0 marks)) ∷ [])
    (10 ∷ number 11 2 ∷ [])
    ∷ same (marking 0 0 0x02 ∷ judged (firmware 1) 1 (with 0 2 2 (with 12 7 1 marks)) ∷ []) (number 11 1 ∷ number 11 12 ∷ [])
    ∷ same (both 0 (0x02 ∷ []) (with 12 2 1 marks) ∷ []) (12 ∷ [])
    -- 4 a record by 16 and the next by 13, by 14 and the next by 13, by 15 and a later one by 13
    ∷ same (code 0 (0xEA ∷ 0xEA ∷ 0x02 ∷ []) ∷ code 12 (0x01 ∷ 0x6C ∷ []) ∷ []) (number 16 0 ∷ number 14 6 ∷ [])
    ∷ same (code 2 (0x60 ∷ 0x20 ∷ 0x20 ∷ 0xFF ∷ 0x48 ∷ 0x68 ∷ 0x81 ∷ []) ∷ []) (number 15 1 ∷ [])
    -- 6 one record by 13 and 14, 13 and 15, 13 and 16; 14 and 16, 15 and 16
    ∷ same (below (0x8D ∷ 0x00 ∷ 0x01 ∷ []) ∷ below (0x60 ∷ []) ∷ code 0 (0x28 ∷ []) ∷ [])
    (number 13 0 ∷ number 13 0 ∷ number 13 0 ∷ [])
    ∷ same (code 13 (0x8D ∷ 0x00 ∷ 0x01 ∷ []) ∷ code 13 (0x68 ∷ []) ∷ []) (number 14 7 ∷ number 15 7 ∷ [])
    ∷ []

pub computed_orders : failing 1 orders ≡ []
unfolding opened mark_tests vectors_hold rules_at admit
computed_orders = refl
