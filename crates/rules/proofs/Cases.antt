-- Further cases, each of a sentence that no starred example tells from a likely misreading.
use Prim.Native.Nat.{ℕ, ◌+◌, ◌*◌, ◌/◌, ◌%◌}
use mathlib.Core.Path.{◌≡◌, refl}
use mathlib.Core.Bool.{Bool, ◌&&◌}
use mathlib.Core.List.{List, [], ◌∷◌, ◌++◌, map}
use lib.Dec.{eqb}
use lib.ListN.{take, drop, set, replicate}
use Rattle.std.specs.Prelude.{Result}
use Rattle.rules.specs.declared.Refusal.{Refusal}
use Rattle.rules.specs.Basics.{at}
use Rattle.rules.specs.Bus.{Chart, charts}
use Rattle.rules.specs.Answers.{step_word, run_words, restart_word, append_word}
use Rattle.rules.specs.Step.{Outcome, step}
use Rattle.rules.specs.Run.{run_of}
use Rattle.rules.specs.Restart.{restart, append_at}
use Rattle.rules.proofs.Opened.{opened}
use Rattle.rules.proofs.Examples.{same, failing, zeros, ◌from◌holds◌, state, registers, tried, runs, on, results, reads, writes}
use Rattle.rules.proofs.Examples.{keeps, is_for}

-- PC after a step
abbrev pc_is : Outcome (Result ℕ Refusal) Chart → ℕ → ℕ → Bool
pc_is o low high = same (take 2 (drop 6 o.state)) (low ∷ high ∷ [])

-- X and Y after a step
abbrev xy_are : Outcome (Result ℕ Refusal) Chart → ℕ → ℕ → Bool
xy_are o x y = same (take 2 (drop 2 o.state)) (x ∷ y ∷ [])

-- JMP (a) on each part, in 5 cycles, by a pointer whose bytes are at these places
abbrev jumps_by : ℕ → ℕ → Bool
jumps_by one two = same (failing 0 (map (λ part. (let o = runs (state part 7 0 0xFF 0x20 0x9000) (zeros 1
    from 0x9000 holds (0x6C ∷ one % 256 ∷ one / 256 ∷ []) from one holds (0x34 ∷ []) from two holds (0x12 ∷ [])) in
    results o 5 7 0xFF 0x20 && reads o 3 one 0 0x34 && reads o 4 two 0 0x12 && pc_is o 0x34 0x12)) (2 ∷ 8 ∷ 9 ∷ []))) []

abbrev steps : List Bool
steps =
    -- 1 Room 55 refuses, 56 runs
    eqb (step_word (step charts (state 2 0 0 0 0x20 0x8000) (zeros 1) 0 0 (replicate 55 0)).answer) 5
    ∷ eqb (step_word (step charts (state 2 0 0 0 0x20 0x8000) (zeros 1) 0 0 (replicate 56 0)).answer) (256 * 7)
    -- 3 the step printer's record
    ∷ same (runs (state 2 0 0 0xFF 0x24 0x8000) (zeros 1 from 0x8000 holds (0xA5 ∷ 0x10 ∷ []) from 0x0010 holds (0x42 ∷ []))).state
    (0x02 ∷ 0x42 ∷ 0x00 ∷ 0x00 ∷ 0xFF ∷ 0x24 ∷ 0x02 ∷ 0x80 ∷ 0 ∷ 0 ∷ 0 ∷ 0 ∷ 0x03 ∷ 0 ∷ 0 ∷ 0 ∷ [])
    -- 4 "The top c pages are write-protected": c = 1, STA FF00 is listed and changes nothing, STA FEFF changes the byte
    ∷ (let o = runs (set (state 2 7 0 0xFF 0x20 0x8000) 11 1) (zeros 1 from 0x8000 holds (0x8D ∷ 0x00 ∷ 0xFF ∷ [])) in
    results o 4 7 0xFF 0x20 && writes o 3 0xFF00 0 7 && keeps o 0xFF00 0)
    ∷ keeps (runs (set (state 2 7 0 0xFF 0x20 0x8000) 11 1) (zeros 1 from 0x8000 holds (0x8D ∷ 0xFF ∷ 0xFE ∷ []))) 0xFEFF 7
    -- 6 "judged by the address on the bus": c = 255, a 6508's PHA at 01FF changes nothing, its STA 00FF the same image byte
    ∷ keeps (runs (set (state 8 7 0 0xFF 0x20 0x8000) 11 255) (zeros 1 from 0x8000 holds (0x48 ∷ []))) 0x00FF 0
    ∷ keeps (runs (set (state 8 7 0 0xFF 0x20 0x8000) 11 255) (zeros 1 from 0x8000 holds (0x85 ∷ 0xFF ∷ []))) 0x00FF 7
    -- 8 6508: "0100, 0101 reach the cells under the registers": PHA with S = 0
    ∷ (let o = runs (state 8 7 0 0x00 0x20 0x8000) (zeros 1 from 0x8000 holds (0x48 ∷ [])) in
    writes o 2 0x0100 0 7 && keeps o 0 7 && keeps o 0x0100 0 && eqb (at o.state 8) 0)
    -- 9 6509: LDA (10),Y reads its pointer in the execution bank and its data in the indirect one, modulo k; CMP (10),Y stays
    ∷ (let o = runs (registers 2 5 (state 9 0 0 0xFF 0x20 0x8000))
    (zeros 2 from 0x8000 holds (0xB1 ∷ 0x10 ∷ []) from 0x0011 holds (0x90 ∷ []) from 0x19000 holds (0x77 ∷ [])) in
    results o 5 0x77 0xFF 0x20 && reads o 3 0x0011 2 0x90 && reads o 4 0x9000 5 0x77)
    ∷ reads (runs (registers 2 5 (state 9 0 0 0xFF 0x20 0x8000))
    (zeros 2 from 0x8000 holds (0xD1 ∷ 0x10 ∷ []) from 0x0011 holds (0x90 ∷ []))) 4 0x9000 2 0
    -- 11 6509: STA (10),Y makes its last two accesses in the indirect bank
    ∷ (let o = runs (registers 2 5 (state 9 7 0 0xFF 0x20 0x8000))
    (zeros 2 from 0x8000 holds (0x91 ∷ 0x10 ∷ []) from 0x0011 holds (0x90 ∷ [])) in
    reads o 4 0x9000 5 0 && writes o 5 0x9000 5 7 && keeps o 0x19000 7)
    -- 12 6509: "a write is listed whole, its high bits dropped"; "Register writes leave the image byte beneath unchanged"
    ∷ (let o = runs (registers 2 0 (state 9 0xF7 0 0xFF 0x20 0x8000)) (zeros 1 from 0x8000 holds (0x85 ∷ 0x01 ∷ [])) in
    writes o 2 0x0001 2 0xF7 && eqb (at o.state 9) 7 && keeps o 1 0)
    -- 13 IRQ: FFFE, FFFF, P with bit 4 clear, I set; with I set the instruction
    ∷ (let o = tried (state 2 7 0 0xFF 0x20 0x8000)
    (zeros 1 from 0x8000 holds (0xEA ∷ []) from 0xFFFE holds (0x34 ∷ 0x12 ∷ [])) 4 0 in
    results o 7 7 0xFC 0x24 && writes o 4 0x01FD 0 0x20 && reads o 5 0xFFFE 0 0x34 && reads o 6 0xFFFF 0 0x12 && pc_is o 0x34 0x12)
    ∷ results (tried (state 2 7 0 0xFF 0x24 0x8000) (zeros 1 from 0x8000 holds (0xEA ∷ [])) 4 0) 2 7 0xFF 0x24
    -- 15 NMI: an edge takes FFFA before an IRQ, and the level is stored; a level does not
    ∷ (let o = tried (state 2 7 0 0xFF 0x20 0x8000) (zeros 1 from 0x8000 holds (0xEA ∷ [])) 6 0 in
    results o 7 7 0xFC 0x24 && reads o 5 0xFFFA 0 0 && eqb (at o.state 10) 1)
    ∷ results (tried (set (state 2 7 0 0xFF 0x20 0x8000) 10 1) (zeros 1 from 0x8000 holds (0xEA ∷ [])) 2 0) 2 7 0xFF 0x20
    -- 17 RES before NMI, whose edge is lost; three stack reads, FFFC, D kept; a 6509's registers are 15 before the first access, a 6508's 0
    ∷ (let o = tried (registers 1 2 (state 9 7 0 0x01 0x28 0x8000)) (zeros 1 from 0xFFFC holds (0x34 ∷ 0x12 ∷ [])) 3 0 in
    results o 7 7 0xFE 0x2C && reads o 0 0x8000 15 0 && reads o 4 0x01FF 15 0 && reads o 5 0xFFFC 15 0x34 && eqb (at o.state 10) 1
    && eqb (at o.state 8) 15)
    ∷ same (take 2 (drop 8 (tried (registers 1 2 (state 8 7 0 0x01 0x28 0x8000)) (zeros 1) 1 0).state)) (0 ∷ 0 ∷ [])
    -- 19 BRK pushes PC+2 and P with bit 4 set; PHP pushes bits 4, 5 set
    ∷ (let o = on 7 0 0xFF 0x20 (0x00 ∷ []) in results o 7 7 0xFC 0x24 && writes o 3 0x01FE 0 0x02 && writes o 4 0x01FD 0 0x30
    && reads o 5 0xFFFE 0 0)
    ∷ writes (on 7 0 0xFF 0x24 (0x08 ∷ [])) 2 0x01FF 0 0x34
    -- 21 JMP (a): "the second pointer byte is read in the same page, low byte wrapped", after 10FF at 1000, after 80FE at 80FF
    ∷ (jumps_by 0x10FF 0x1000 && jumps_by 0x80FF 0x8000 && jumps_by 0x80FE 0x80FF)
    -- 22 JSR at 01FD, S = FF, reads its high operand after the pushes
    ∷ reads (runs (state 2 0 0 0xFF 0x20 0x01FD) (zeros 1 from 0x01FD holds (0x20 ∷ 0x34 ∷ 0x12 ∷ []))) 5 0x01FF 0 0x01
    -- 23 RTS reads where it returns to, and PC is one more; RTI goes there itself
    ∷ (let o = runs (state 2 7 0 0xFD 0x20 0x8000) (zeros 1 from 0x8000 holds (0x60 ∷ []) from 0x01FE holds (0xFF ∷ 0x12 ∷ [])) in
    results o 6 7 0xFF 0x20 && reads o 2 0x01FD 0 0 && reads o 5 0x12FF 0 0 && pc_is o 0x00 0x13)
    ∷ (let o = runs (state 2 7 0 0xFC 0x20 0x8000) (zeros 1 from 0x8000 holds (0x40 ∷ []) from 0x01FD holds (0xFF ∷ 0x34 ∷ 0x12 ∷ [])) in
    results o 6 7 0xFF 0xEF && pc_is o 0x34 0x12)
    -- 25 z,X wraps in page zero; (z,X) reads unindexed first; (FF),Y takes its pointer's high byte at 0000
    ∷ reads (on 0 0x02 0 0x20 (0xB5 ∷ 0xFF ∷ [])) 3 0x0001 0 0
    ∷ (let o = on 0 0x02 0 0x20 (0xA1 ∷ 0xFD ∷ []) in results o 6 0 0 0x22 && reads o 2 0x00FD 0 0 && reads o 3 0x00FF 0 0
    && reads o 4 0x0000 0 0)
    ∷ reads (on 0 0 0 0x20 (0xB1 ∷ 0xFF ∷ [])) 3 0x0000 0 0
    -- 28 shifts set N, Z, C: ROR A of 01 with C, LSR, ASL, ROL
    ∷ results (on 0x01 0 0 0x21 (0x6A ∷ [])) 2 0x80 0 0xA1
    ∷ results (on 0x01 0 0 0xA0 (0x4A ∷ [])) 2 0x00 0 0x23
    ∷ results (on 0x80 0 0 0x20 (0x0A ∷ [])) 2 0x00 0 0x23
    ∷ results (on 0x40 0 0 0x21 (0x2A ∷ [])) 2 0x81 0 0xA0
    -- 32 a compare: below, equal; BIT takes N, V from memory
    ∷ results (on 0x10 0 0 0x21 (0xC9 ∷ 0x20 ∷ [])) 2 0x10 0 0xA0
    ∷ results (on 0x10 0 0 0x20 (0xC9 ∷ 0x10 ∷ [])) 2 0x10 0 0x23
    ∷ results (runs (state 2 0x3F 0 0 0x20 0x8000) (zeros 1 from 0x8000 holds (0x24 ∷ 0x10 ∷ []) from 0x10 holds (0xC0 ∷ []))) 3
    0x3F 0 0xE2
    -- 35 TXS sets no flags, TSX does
    ∷ results (on 7 0 0xFF 0x20 (0x9A ∷ [])) 2 7 0x00 0x20
    ∷ results (on 7 1 0x00 0x20 (0xBA ∷ [])) 2 7 0x00 0x22
    -- 37 traps: a crossing is judged from the next instruction's address, here 8100, not from the branch's own; PLA sets N
    ∷ results (runs (state 2 7 0 0xFF 0x20 0x80FE) (zeros 1 from 0x80FE holds (0xD0 ∷ 0x00 ∷ []))) 3 7 0xFF 0x20
    ∷ results (runs (state 2 7 0 0xFE 0x20 0x8000) (zeros 1 from 0x8000 holds (0x68 ∷ []) from 0x01FF holds (0x80 ∷ []))) 4 0x80
    0xFF 0xA0
    -- 39 the cycle count is 010304FF and then 01030501, "low byte first"
    ∷ same (drop 12 (runs (take 12 (state 2 0 0 0 0x20 0x8000) ++ 0xFF ∷ 4 ∷ 3 ∷ 1 ∷ [])
    (zeros 1 from 0x8000 holds (0xEA ∷ []))).state)
    (1 ∷ 5 ∷ 3 ∷ 1 ∷ [])
    -- 40 sums past FFFF wrap: NOP at FFFF; LDA FFFF,X, X = 1; BNE at FFFD to 0000, and at 0000 to FFFF; JMP (FFFF) stays
    ∷ (let o = runs (state 2 0 0 0 0x20 0xFFFF) (zeros 1 from 0xFFFF holds (0xEA ∷ [])) in reads o 1 0x0000 0 0 && pc_is o 0x00 0x00)
    ∷ (let o = on 0 1 0 0x20 (0xBD ∷ 0xFF ∷ 0xFF ∷ []) in reads o 3 0xFF00 0 0 && reads o 4 0x0000 0 0)
    ∷ (let o = runs (state 2 0 0 0 0x20 0xFFFD) (zeros 1 from 0xFFFD holds (0xD0 ∷ 0x01 ∷ [])) in reads o 3 0xFF00 0 0
    && pc_is o 0x00 0x00)
    ∷ (let o = runs (state 2 0 0 0 0x20 0x0000) (zeros 1 from 0x0000 holds (0xD0 ∷ 0xFD ∷ [])) in reads o 3 0x00FF 0 0
    && pc_is o 0xFF 0xFF)
    ∷ jumps_by 0xFFFF 0xFF00
    -- 45 decimal 20 - 01, C = 1: the low digits borrow, 19; FF + 01: 00, Z, C; ROL A of 80 with C
    ∷ results (on 0x20 0 0 0x29 (0xE9 ∷ 0x01 ∷ [])) 2 0x19 0 0x29
    ∷ results (on 0xFF 0 0 0x20 (0x69 ∷ 0x01 ∷ [])) 2 0x00 0 0x23
    ∷ results (on 0x80 0 0 0x21 (0x2A ∷ [])) 2 0x01 0 0x21
    -- 48 the cycle count is FFFFFFFF and then 1, "modulo 2^32"
    ∷ same (drop 12 (runs (take 12 (state 2 0 0 0 0x20 0x8000) ++ replicate 4 0xFF) (zeros 1 from 0x8000 holds (0xEA ∷ []))).state)
    (1 ∷ 0 ∷ 0 ∷ 0 ∷ [])
    -- 49 6509: "A bank change holds from the next access": after E6 00 in bank 2 the next step's opcode is read in bank 3
    ∷ (let r = registers 2 0 (state 9 7 0 0xFF 0x20 0x8000) in
    let m = zeros 4 from 0x28000 holds (0xE6 ∷ 0x00 ∷ []) from 0x38002 holds (0xEA ∷ []) in
    same (take 8 (drop 40 (run_of charts r m (replicate 4 0) (replicate 112 0)).accesses))
    (0x02 ∷ 0x80 ∷ 3 ∷ 0xEA ∷ 0 ∷ 1 ∷ 0 ∷ 0 ∷ []))
    -- 50 decimal, C = 0: 12 + 11: 23, low digits alone make L; 05 + 05: 10, L is 10; 40 + 40: 80, N, V; 50 + 50: 00, T is 160, C, N, V
    ∷ results (on 0x12 0 0 0x28 (0x69 ∷ 0x11 ∷ [])) 2 0x23 0 0x28
    ∷ results (on 0x05 0 0 0x28 (0x69 ∷ 0x05 ∷ [])) 2 0x10 0 0x28
    ∷ results (on 0x40 0 0 0x28 (0x69 ∷ 0x40 ∷ [])) 2 0x80 0 0xE8
    ∷ results (on 0x50 0 0 0x28 (0x69 ∷ 0x50 ∷ [])) 2 0x00 0 0xE9
    -- 54 decimal 11 - 11, C = 1: 00, Z, C, neither L nor T is negative; binary 80 + 00, C = 0: 80, N, no V, since -128 is a signed byte
    ∷ results (on 0x11 0 0 0x29 (0xE9 ∷ 0x11 ∷ [])) 2 0x00 0 0x2B
    ∷ results (on 0x80 0 0 0x20 (0x69 ∷ 0x00 ∷ [])) 2 0x80 0 0xA0
    -- 56 LSR A of 82; ROR A of 04 with C; BIT of 80; DEC of 01 writes it back, then 00
    ∷ results (on 0x82 0 0 0x20 (0x4A ∷ [])) 2 0x41 0 0x20
    ∷ results (on 0x04 0 0 0x21 (0x6A ∷ [])) 2 0x82 0 0xA0
    ∷ results (runs (state 2 0x80 0 0 0x20 0x8000) (zeros 1 from 0x8000 holds (0x24 ∷ 0x10 ∷ []) from 0x10 holds (0x80 ∷ []))) 3
    0x80 0 0xA0
    ∷ (let o = runs (state 2 7 0 0 0x20 0x8000) (zeros 1 from 0x8000 holds (0xC6 ∷ 0x10 ∷ []) from 0x10 holds (0x01 ∷ [])) in
    results o 5 7 0 0x22 && writes o 3 0x0010 0 0x01 && writes o 4 0x0010 0 0x00)
    -- 60 INX of 7F, DEX of 00, INY and DEY of 00
    ∷ xy_are (on 7 0x7F 0 0x20 (0xE8 ∷ [])) 0x80 0x00
    ∷ xy_are (on 7 0x00 0 0x20 (0xCA ∷ [])) 0xFF 0x00
    ∷ xy_are (on 7 0x00 0 0x20 (0xC8 ∷ [])) 0x00 0x01
    ∷ xy_are (on 7 0x00 0 0x20 (0x88 ∷ [])) 0x00 0xFF
    -- 64 JSR at 8100 pushes 81, 02; PHA with S = 0 leaves FF; BNE at 8000 to 7FFF reads the next instruction's page, at 80FF
    ∷ (let o = runs (state 2 7 0 0xFF 0x20 0x8100) (zeros 1 from 0x8100 holds (0x20 ∷ [])) in
    writes o 3 0x01FF 0 0x81 && writes o 4 0x01FE 0 0x02)
    ∷ results (on 7 0 0x00 0x20 (0x48 ∷ [])) 3 7 0xFF 0x20
    ∷ reads (on 7 0 0 0x20 (0xD0 ∷ 0xFD ∷ [])) 3 0x80FF 0 0
    -- 67 6508: "Addresses 0100 to 01FF reach image bytes 0 to 255": PHA at 0110; direction 0F, output 00, pins FF: reads F0
    ∷ keeps (runs (state 8 7 0 0x10 0x20 0x8000) (zeros 1 from 0x8000 holds (0x48 ∷ []))) 0x0010 7
    ∷ results (tried (registers 0x0F 0x00 (state 8 7 0 0xFF 0x20 0x8000)) (zeros 1 from 0x8000 holds (0xA5 ∷ 0x01 ∷ [])) 0 0xFF) 3
    0xF0 0xFF 0xA0
    -- 69 6509: "k = 1, 2, 4, 8 or 16"
    ∷ same (map (λ k. step_word (runs (state 9 0 0 0 0x20 0x8000) (zeros k)).answer) (1 ∷ 2 ∷ 4 ∷ 8 ∷ 16 ∷ []))
    (replicate 5 (256 * 7))
    ∷ []

computed_steps : failing 1 steps ≡ []
unfolding opened
computed_steps = refl

-- "What each access was for": 1 opcode, 2 operand, 3 wasted, 4 pointer, 5 data, 6 stack, 7 vector
abbrev purposes : List Bool
purposes =
    -- 1 an operand: a byte, immediate, and an address, of a jump too
    is_for (on 7 0 0xFF 0x20 (0xA9 ∷ 0x00 ∷ [])) (1 ∷ 2 ∷ [])
    ∷ is_for (on 7 0 0xFF 0x20 (0xA5 ∷ 0x10 ∷ [])) (1 ∷ 2 ∷ 5 ∷ [])
    ∷ is_for (on 7 0 0xFF 0x20 (0x8D ∷ 0x00 ∷ 0x02 ∷ [])) (1 ∷ 2 ∷ 2 ∷ 5 ∷ [])
    ∷ is_for (on 7 0 0xFF 0x20 (0x4C ∷ 0x00 ∷ 0x02 ∷ [])) (1 ∷ 2 ∷ 2 ∷ [])
    -- 5 "each read whose value the step doesn't use": PC+1 of NOP, ASL A, TXS, CLI; z,X unindexed
    ∷ is_for (on 7 0 0xFF 0x20 (0xEA ∷ [])) (1 ∷ 3 ∷ [])
    ∷ is_for (on 7 0 0xFF 0x20 (0x0A ∷ [])) (1 ∷ 3 ∷ [])
    ∷ is_for (on 7 0 0xFF 0x20 (0x9A ∷ [])) (1 ∷ 3 ∷ [])
    ∷ is_for (on 7 0 0xFF 0x20 (0x58 ∷ [])) (1 ∷ 3 ∷ [])
    ∷ is_for (on 7 0 0xFF 0x20 (0xB5 ∷ 0x10 ∷ [])) (1 ∷ 2 ∷ 3 ∷ 5 ∷ [])
    -- 10 a,X: a load that stops at its first read, one that crosses, a store
    ∷ is_for (on 7 0 0xFF 0x20 (0xBD ∷ 0xFF ∷ 0x80 ∷ [])) (1 ∷ 2 ∷ 2 ∷ 5 ∷ [])
    ∷ is_for (on 7 1 0xFF 0x20 (0xBD ∷ 0xFF ∷ 0x80 ∷ [])) (1 ∷ 2 ∷ 2 ∷ 3 ∷ 5 ∷ [])
    ∷ is_for (on 7 0 0xFF 0x20 (0x9D ∷ 0x00 ∷ 0x02 ∷ [])) (1 ∷ 2 ∷ 2 ∷ 3 ∷ 5 ∷ [])
    -- 13 pointers: (z,X), (z),Y with and without a crossing, its store, JMP (a)
    ∷ is_for (on 7 0 0xFF 0x20 (0xA1 ∷ 0x10 ∷ [])) (1 ∷ 2 ∷ 3 ∷ 4 ∷ 4 ∷ 5 ∷ [])
    ∷ is_for (on 7 0 0xFF 0x20 (0xB1 ∷ 0x10 ∷ [])) (1 ∷ 2 ∷ 4 ∷ 4 ∷ 5 ∷ [])
    ∷ is_for (runs (set (state 2 7 0 0xFF 0x20 0x8000) 3 1)
    (zeros 1 from 0x8000 holds (0xB1 ∷ 0x10 ∷ []) from 0x0010 holds (0xFF ∷ []))) (1 ∷ 2 ∷ 4 ∷ 4 ∷ 3 ∷ 5 ∷ [])
    ∷ is_for (on 7 0 0xFF 0x20 (0x91 ∷ 0x10 ∷ [])) (1 ∷ 2 ∷ 4 ∷ 4 ∷ 3 ∷ 5 ∷ [])
    ∷ is_for (on 7 0 0xFF 0x20 (0x6C ∷ 0x00 ∷ 0x02 ∷ [])) (1 ∷ 2 ∷ 2 ∷ 4 ∷ 4 ∷ [])
    -- 18 "The write-back of an old value is 3": INC z, ASL a,X
    ∷ is_for (on 7 0 0xFF 0x20 (0xE6 ∷ 0x10 ∷ [])) (1 ∷ 2 ∷ 5 ∷ 3 ∷ 5 ∷ [])
    ∷ is_for (on 7 0 0xFF 0x20 (0x1E ∷ 0x00 ∷ 0x02 ∷ [])) (1 ∷ 2 ∷ 2 ∷ 3 ∷ 5 ∷ 3 ∷ 5 ∷ [])
    -- 20 the stack: PHA, PLA, JSR, whose high byte comes last, RTS, RTI
    ∷ is_for (on 7 0 0xFF 0x20 (0x48 ∷ [])) (1 ∷ 3 ∷ 6 ∷ [])
    ∷ is_for (on 7 0 0xFF 0x20 (0x68 ∷ [])) (1 ∷ 3 ∷ 3 ∷ 6 ∷ [])
    ∷ is_for (on 7 0 0xFF 0x20 (0x20 ∷ 0x00 ∷ 0x02 ∷ [])) (1 ∷ 2 ∷ 3 ∷ 6 ∷ 6 ∷ 2 ∷ [])
    ∷ is_for (on 7 0 0xFF 0x20 (0x60 ∷ [])) (1 ∷ 3 ∷ 3 ∷ 6 ∷ 6 ∷ 3 ∷ [])
    ∷ is_for (on 7 0 0xFF 0x20 (0x40 ∷ [])) (1 ∷ 3 ∷ 3 ∷ 6 ∷ 6 ∷ 6 ∷ [])
    -- 25 "a branch's offset is 2": not taken, taken, taken into another page
    ∷ is_for (on 7 0 0xFF 0x20 (0xF0 ∷ 0x10 ∷ [])) (1 ∷ 2 ∷ [])
    ∷ is_for (on 7 0 0xFF 0x20 (0xD0 ∷ 0x10 ∷ [])) (1 ∷ 2 ∷ 3 ∷ [])
    ∷ is_for (on 7 0 0xFF 0x20 (0xD0 ∷ 0x80 ∷ [])) (1 ∷ 2 ∷ 3 ∷ 3 ∷ [])
    -- 28 BRK; IRQ and NMI; "a reset's three stack reads are 6"
    ∷ is_for (on 7 0 0xFF 0x20 (0x00 ∷ [])) (1 ∷ 3 ∷ 6 ∷ 6 ∷ 6 ∷ 7 ∷ 7 ∷ [])
    ∷ is_for (tried (state 2 7 0 0xFF 0x20 0x8000) (zeros 1) 4 0) (3 ∷ 3 ∷ 6 ∷ 6 ∷ 6 ∷ 7 ∷ 7 ∷ [])
    ∷ is_for (tried (state 2 7 0 0xFF 0x20 0x8000) (zeros 1) 2 0) (3 ∷ 3 ∷ 6 ∷ 6 ∷ 6 ∷ 7 ∷ 7 ∷ [])
    ∷ is_for (tried (state 2 7 0 0xFF 0x20 0x8000) (zeros 1) 1 0) (3 ∷ 3 ∷ 6 ∷ 6 ∷ 6 ∷ 7 ∷ 7 ∷ [])
    ∷ []

computed_purposes : failing 1 purposes ≡ []
unfolding opened
computed_purposes = refl

abbrev refusals : List Bool
refusals =
    -- 1 "Step: 1 to 6 in order", each with all later ones too; "6 adds PC and opcode"
    eqb (step_word (step charts [] (zeros 2) 8 0 []).answer) 1
    ∷ eqb (step_word (step charts (state 2 0 0 0 0x30 0x8000) (zeros 2) 8 0 []).answer) 2
    ∷ eqb (step_word (step charts (state 2 0 0 0 0x20 0x8000) (zeros 2) 8 0 []).answer) 3
    ∷ eqb (step_word (step charts (state 2 0 0 0 0x20 0x8000) (zeros 1) 8 0 []).answer) 4
    ∷ eqb (step_word (step charts (state 2 0 0 0 0x20 0x8000) (zeros 1 from 0x8000 holds (0x02 ∷ [])) 0 0 []).answer) 5
    ∷ eqb (step_word (on 0 0 0 0x20 (0x02 ∷ [])).answer) 0x80000206
    -- 7 malformed: a 6502's register not 0, a 6509's 16, a 6508's NMI level, a 6509's c, part 03
    ∷ eqb (step_word (runs (registers 1 0 (state 2 0 0 0 0x20 0x8000)) (zeros 1)).answer) 2
    ∷ eqb (step_word (runs (registers 0 16 (state 9 0 0 0 0x20 0x8000)) (zeros 1)).answer) 2
    ∷ eqb (step_word (runs (set (state 8 0 0 0 0x20 0x8000) 10 1) (zeros 1)).answer) 2
    ∷ eqb (step_word (runs (set (state 9 0 0 0 0x20 0x8000) 11 1) (zeros 1)).answer) 2
    ∷ eqb (step_word (runs (state 3 0 0 0 0x20 0x8000) (zeros 1)).answer) 2
    -- 12 a 6509's image of three banks; NMI on a 6508, and pins off it
    ∷ eqb (step_word (runs (state 9 0 0 0 0x20 0x8000) (zeros 3)).answer) 3
    ∷ eqb (step_word (tried (state 8 0 0 0 0x20 0x8000) (zeros 1) 2 0).answer) 4
    ∷ eqb (step_word (tried (state 9 0 0 0 0x20 0x8000) (zeros 1) 0 1).answer) 4
    -- 15 a run: 3 before 7, 7 before anything; one step stands and is counted, the next is undefined
    ∷ eqb (run_words (run_of charts (state 2 0 0 0 0x20 0x8000) (zeros 2) (0 ∷ []) []).answer).word 3
    ∷ eqb (run_words (run_of charts (state 2 0 0 0 0x20 0x8000) (zeros 1) (0 ∷ []) []).answer).word 7
    ∷ (let o = run_of charts (state 2 0 0 0 0x20 0x8000) (zeros 1 from 0x8000 holds (0xEA ∷ 0x02 ∷ [])) (0 ∷ 0 ∷ 0 ∷ 0 ∷ [])
    (replicate 72 9) in
    let w = run_words o.answer in
    same (w.word ∷ w.steps ∷ w.listed ∷ at o.state 12 ∷ at o.accesses 15 ∷ at o.accesses 16 ∷ [])
    (0x80010206 ∷ 1 ∷ 2 ∷ 2 ∷ 0 ∷ 9 ∷ []))
    -- 18 restart: 8 under 16 bytes; 2 for the last whole record; its place and the tail; 8 where an append would pass 65,536 bytes
    ∷ eqb (restart_word (restart (replicate 15 2))) 8
    ∷ eqb (restart_word (restart (replicate 16 2))) 2
    ∷ eqb (restart_word (restart (replicate 32 2 ++ state 2 0 0 0 0x20 0x8000 ++ replicate 5 2))) (256 * 5 + 65536 * 32)
    ∷ same (append_word (append_at 21) ∷ append_word (append_at 65535) ∷ append_word (append_at 65536) ∷ [])
    (65536 * 16 ∷ 65536 * 65520 ∷ 8 ∷ [])
    -- 22 "no byte moves"
    ∷ (let o = step charts (state 2 7 0 0 0x20 0x8000) (zeros 1) 8 0 (replicate 56 9) in
    same o.state (state 2 7 0 0 0x20 0x8000) && same o.accesses (replicate 56 9))
    -- 23 an image of a bank and a half
    ∷ eqb (step_word (runs (state 9 0 0 0 0x20 0x8000) (record { size = 98304; byte_at = λ i. 0 })).answer) 3
    -- 24 a run with an empty script is played to its end
    ∷ eqb (run_words (run_of charts (state 2 0 0 0 0x20 0x8000) (zeros 1) [] []).answer).word 0
    ∷ []

computed_refusals : failing 1 refusals ≡ []
unfolding opened
computed_refusals = refl
