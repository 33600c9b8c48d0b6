-- "Starred ones are proved of the rules as one list under a single claim". They are computed on charts; Images.antt carries a step to
-- images.
use Prim.Native.Nat.{ℕ, suc, ◌+◌, ◌*◌, ◌/◌, ◌%◌}
use Prim.Native.Char.{code}
use Prim.Native.String.{String, [] as none, ◌∷◌ as ◌then◌}
use mathlib.Core.Path.{◌≡◌, refl}
use mathlib.Core.Bool.{Bool, true, false, ◌&&◌}
use mathlib.Core.List.{List, [], ◌∷◌}
use lib.Dec.{eqb}
use lib.ListN.{take, drop, set, replicate}
use Rattle.std.specs.Prelude.{Result}
use Rattle.rules.specs.declared.Refusal.{Refusal}
use Rattle.rules.specs.Basics.{when◌then◌else◌, at}
use Rattle.rules.specs.Bus.{Chart, poked, charts}
use Rattle.rules.specs.Answers.{step_word}
use Rattle.rules.specs.Step.{Outcome, step}
use Rattle.rules.proofs.Opened.{opened}

abbrev pub same : List ℕ → List ℕ → Bool
same [] [] = true
same [] (y ∷ ys) = false
same (x ∷ xs) [] = false
same (x ∷ xs) (y ∷ ys) = eqb x y && same xs ys

abbrev pub said : String → List ℕ
said none = []
said (c then s) = code c ∷ said s

-- the numbers of the tests that fail, counted from n: a refused claim names them
abbrev pub failing : ℕ → List Bool → List ℕ
failing n [] = []
failing n (b ∷ bs) = when b then failing (suc n) bs else n ∷ failing (suc n) bs

-- an image of k banks of zeros, and one with bytes from place p on
abbrev pub zeros : ℕ → Chart
zeros k = record { size = k * 65536; byte_at = λ i. 0 }

infixl 20 ◌from◌holds◌
abbrev pub ◌from◌holds◌ : Chart → ℕ → List ℕ → Chart
m from p holds [] = m
m from p holds (v ∷ vs) = poked m p v from suc p holds vs

-- a record of this part with these A, X, S, P and PC, and zeros
abbrev pub state : ℕ → ℕ → ℕ → ℕ → ℕ → ℕ → List ℕ
state part a x s p pc = part ∷ a ∷ x ∷ 0 ∷ s ∷ p ∷ pc % 256 ∷ pc / 256 ∷ 0 ∷ 0 ∷ 0 ∷ 0 ∷ 0 ∷ 0 ∷ 0 ∷ 0 ∷ []

-- the same, with the registers at 0000 and 0001
abbrev pub registers : ℕ → ℕ → List ℕ → List ℕ
registers first second r = set (set r 8 first) 9 second

-- a step with room for one; with no line asserted; of the instruction at 8000 of a 6502
abbrev pub tried : List ℕ → Chart → ℕ → ℕ → Outcome (Result ℕ Refusal) Chart
tried r m lines pins = step charts r m lines pins (replicate 56 0)

abbrev pub runs : List ℕ → Chart → Outcome (Result ℕ Refusal) Chart
runs r m = tried r m 0 0

abbrev pub on : ℕ → ℕ → ℕ → ℕ → List ℕ → Outcome (Result ℕ Refusal) Chart
on a x s p code = runs (state 2 a x s p 0x8000) (zeros 1 from 0x8000 holds code)

-- it answered n accesses, and results A, S and P so
abbrev pub results : Outcome (Result ℕ Refusal) Chart → ℕ → ℕ → ℕ → ℕ → Bool
results o n a s p = same (step_word o.answer ∷ at o.state 1 ∷ at o.state 4 ∷ at o.state 5 ∷ [])
    (256 * n ∷ a ∷ s ∷ p ∷ [])

-- its access k, counted from 0, was a read or a write of v at p, with this bank selected
abbrev pub accessed : ℕ → Outcome (Result ℕ Refusal) Chart → ℕ → ℕ → ℕ → ℕ → Bool
accessed kind o k p bank v = same (take 5 (drop (8 * k) o.accesses)) (p % 256 ∷ p / 256 ∷ bank ∷ v ∷ kind ∷ [])

abbrev pub reads : Outcome (Result ℕ Refusal) Chart → ℕ → ℕ → ℕ → ℕ → Bool
reads = accessed 0

abbrev pub writes : Outcome (Result ℕ Refusal) Chart → ℕ → ℕ → ℕ → ℕ → Bool
writes = accessed 1

-- from access k on, its accesses were for these purposes, and there were no more; bytes 6 and 7 of each are zero
abbrev pub purposed : ℕ → Outcome (Result ℕ Refusal) Chart → List ℕ → Bool
purposed k o [] = eqb (step_word o.answer) (256 * k)
purposed k o (u ∷ us) = same (take 3 (drop (8 * k + 5) o.accesses)) (u ∷ 0 ∷ 0 ∷ []) && purposed (suc k) o us

abbrev pub is_for : Outcome (Result ℕ Refusal) Chart → List ℕ → Bool
is_for = purposed 0

-- the image then holds v at place p
abbrev pub keeps : Outcome (Result ℕ Refusal) Chart → ℕ → ℕ → Bool
keeps o p v = eqb (o.image.byte_at p) v

abbrev starred : List Bool
starred =
    -- A9 00: Z, 2 cycles
    results (on 7 0 0xFF 0x20 (0xA9 ∷ 0x00 ∷ [])) 2 0 0xFF 0x22
    -- ADC 7F + 01, C = 0: 80, N, V
    ∷ results (on 0x7F 0 0xFF 0x20 (0x69 ∷ 0x01 ∷ [])) 2 0x80 0xFF 0xE0
    -- SBC 50 - B0, C = 1: A0, N, V, no C
    ∷ results (on 0x50 0 0xFF 0x21 (0xE9 ∷ 0xB0 ∷ [])) 2 0xA0 0xFF 0xE0
    -- Decimal 58 + 46, C = 1: 05, C, N, V
    ∷ results (on 0x58 0 0xFF 0x29 (0x69 ∷ 0x46 ∷ [])) 2 0x05 0xFF 0xE9
    -- Decimal 12 - 21, C = 1: 91, N, no C
    ∷ results (on 0x12 0 0xFF 0x29 (0xE9 ∷ 0x21 ∷ [])) 2 0x91 0xFF 0xA8
    -- LDA 80FF,X: X = 0, 4 cycles; X = 1, 5, the fourth at 8000
    ∷ results (on 7 0 0xFF 0x20 (0xBD ∷ 0xFF ∷ 0x80 ∷ [])) 4 0 0xFF 0x22
    ∷ (let o = on 7 1 0xFF 0x20 (0xBD ∷ 0xFF ∷ 0x80 ∷ []) in results o 5 0 0xFF 0x22 && reads o 3 0x8000 0 0xBD)
    -- STA 8000,X, X = 0: 5
    ∷ results (on 7 0 0xFF 0x20 (0x9D ∷ 0x00 ∷ 0x80 ∷ [])) 5 7 0xFF 0x20
    -- BNE at 80FD taken: offset 0, 3 cycles; offset 1, 4
    ∷ results (runs (state 2 7 0 0xFF 0x20 0x80FD) (zeros 1 from 0x80FD holds (0xD0 ∷ 0x00 ∷ []))) 3 7 0xFF 0x20
    ∷ results (runs (state 2 7 0 0xFF 0x20 0x80FD) (zeros 1 from 0x80FD holds (0xD0 ∷ 0x01 ∷ []))) 4 7 0xFF 0x20
    -- JSR at 8000, S = 00: 80 at 0100, 02 at 01FF, S = FE
    ∷ (let o = on 7 0 0x00 0x20 (0x20 ∷ 0x34 ∷ 0x12 ∷ []) in results o 6 7 0xFE 0x20 && keeps o 0x0100 0x80 && keeps o 0x01FF 0x02)
    -- PLP of FF: P = EF; of 00: 20
    ∷ results (runs (state 2 7 0 0xFE 0x20 0x8000) (zeros 1 from 0x8000 holds (0x28 ∷ []) from 0x01FF holds (0xFF ∷ []))) 4 7 0xFF
    0xEF
    ∷ results (runs (state 2 7 0 0xFE 0xE3 0x8000) (zeros 1 from 0x8000 holds (0x28 ∷ []))) 4 7 0xFF 0x20
    -- 6508, direction 0F, output A5, pins 5A: reads 55
    ∷ results (tried (registers 0x0F 0xA5 (state 8 7 0 0xFF 0x20 0x8000)) (zeros 1 from 0x8000 holds (0xA5 ∷ 0x01 ∷ [])) 0 0x5A) 3
    0x55
    0xFF 0x20
    -- 6509, execution bank 2, E6 00: writes 02, then 03; bank 3 next
    ∷ (let o = runs (registers 2 0 (state 9 7 0 0xFF 0x20 0x8000)) (zeros 1 from 0x8000 holds (0xE6 ∷ 0x00 ∷ [])) in
    results o 5 7 0xFF 0x20 && writes o 3 0x0000 2 0x02 && writes o 4 0x0000 2 0x03 && eqb (at o.state 8) 3)
    ∷ []

examples : failing 1 starred ≡ []
unfolding opened
examples = refl
