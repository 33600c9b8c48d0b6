-- Cases of counting by page, and of what the page report prints.
use Prim.Native.Nat.{ℕ, ◌-◌, ◌^◌}
use Prim.Native.String.{String}
use mathlib.Core.Path.{◌≡◌, refl}
use mathlib.Core.Bool.{Bool, ◌&&◌}
use mathlib.Core.List.{List, [], ◌∷◌, ◌++◌}
use lib.Dec.{eqb}
use lib.ListN.{length, take, set}
use Rattle.std.specs.Prelude.{Ok, Err}
use Rattle.rules.specs.declared.Refusal.TheVariants.{Total}
use Rattle.rules.specs.declared.Counting.{Counting}
use Rattle.rules.specs.Basics.{at}
use Rattle.rules.specs.Text.{digits, each, number_line}
use Rattle.rules.specs.Pages.{counted, sum, counting, fed, none, counting_of, page_words, page_line, report_of}
use Rattle.rules.proofs.Examples.{same, said, failing}

-- one access of page 80: a read, a write
abbrev reading : List ℕ
reading = 0x12 ∷ 0x80 ∷ 0x00 ∷ 0xEA ∷ 0 ∷ 0 ∷ 0 ∷ 0 ∷ []

abbrev writing : List ℕ
writing = set reading 4 1

-- a list leaves these reads and writes of pages 80 and 12, and is answered so
abbrev leaves : Counting → ℕ → ℕ → ℕ → ℕ → ℕ → Bool
leaves k word r w r' w' =
    let p = page_words k in
    same (p.word ∷ at p.reads 0x80 ∷ at p.writes 0x80 ∷ at p.reads 0x12 ∷ at p.writes 0x12 ∷ []) (word ∷ r ∷ w ∷ r' ∷ w' ∷ [])

-- the word for a list fed from all zero
abbrev answers : List ℕ → ℕ → Bool
answers l word = eqb (page_words (counting_of l)).word word

-- all zero but this count of page 80
abbrev lent : ℕ → List ℕ
lent n = set none 0x80 n

abbrev prints : Counting → String → Bool
prints k s = same (report_of k) (said s)

counts : List Bool
counts =
    -- 1 nothing, of 256 pages; a read; a write
    (leaves (counting_of []) 0 0 0 0 0 && eqb (length none) 256)
    ∷ leaves (counting_of reading) 0 1 0 0 0
    ∷ leaves (counting_of writing) 0 0 1 0 0
    -- 4 "On the 6509 banks are ignored"; the page is the address's high byte, FF the last
    ∷ leaves (counting_of (set reading 2 0x0F)) 0 1 0 0 0
    ∷ leaves (counting_of (reading ++ set writing 1 0x12 ++ reading)) 0 2 0 0 1
    ∷ eqb (at (counting_of (set reading 1 0xFF)).reads 0xFF) 1
    -- 7 lists "fed one after another" add up
    ∷ (let k = counting_of (reading ++ writing) in leaves (fed k.reads k.writes writing) 0 1 2 0 0)
    -- 8 "a list whose length is no multiple of 8 gives 20": 1, 4, 9 bytes
    ∷ answers (0 ∷ []) 20
    ∷ answers (take 4 reading) 20
    ∷ answers (reading ++ 0 ∷ []) 20
    -- 11 "byte 4 above 1", "byte 5 as 0 to 7 .. and bytes 6 and 7 as zero", at any record; other bytes are free
    ∷ answers (set reading 4 2) 21
    ∷ answers (set reading 5 8) 21
    ∷ answers (reading ++ set reading 6 1) 21
    ∷ answers (set reading 7 0x80 ++ reading) 21
    ∷ answers (0xFF ∷ 0xFF ∷ 0xFF ∷ 0xFF ∷ 1 ∷ 7 ∷ 0 ∷ 0 ∷ []) 0
    -- 16 "a total of all counts that would pass 64 bits gives 22": the last that fits, the first that does not, counts that passed already
    ∷ leaves (fed (lent (2 ^ 64 - 2)) none reading) 0 (2 ^ 64 - 1) 0 0 0
    ∷ leaves (fed (lent (2 ^ 64 - 2)) (lent 1) reading) 22 (2 ^ 64 - 2) 1 0 0
    ∷ leaves (fed (lent (2 ^ 64 - 1)) (lent (2 ^ 64 - 1)) []) 22 (2 ^ 64 - 1) (2 ^ 64 - 1) 0 0
    ∷ leaves (fed (lent (2 ^ 64 - 1)) none []) 0 (2 ^ 64 - 1) 0 0 0
    -- 20 "in that order, and the counts stay"
    ∷ leaves (fed (lent 3) (lent 4) (set reading 4 2 ++ 0 ∷ [])) 20 3 4 0 0
    ∷ leaves (fed (lent (2 ^ 64 - 1)) none (reading ++ set reading 5 8)) 21 (2 ^ 64 - 1) 0 0 0
    ∷ leaves (fed (lent (2 ^ 64 - 1)) none (take 7 reading)) 20 (2 ^ 64 - 1) 0 0 0
    -- 23 the report: "one line per page with any traffic, then the total"; a refusal
    ∷ prints (counting_of []) "T 0\n"
    ∷ prints (counting_of (writing ++ set reading 1 0x0A ++ reading ++ reading)) "0A 1 0\n80 2 1\nT 4\n"
    ∷ prints (counting_of (take 7 reading)) "E 20\n"
    ∷ prints (counting (Ok tt) (lent (2 ^ 64 - 1)) none) "80 18446744073709551615 0\nT 18446744073709551615\n"
    ∷ prints (counting (Ok tt) none (lent 10)) "80 0 10\nT 10\n"
    ∷ prints (counting (Err Total) none none) "E 22\n"
    ∷ prints (counting (Ok tt) (lent (2 ^ 64 - 1)) (lent 1)) "E 22\n"
    ∷ []

computed_counts : failing 1 counts ≡ []
unfolding counts counted sum fed none digits each number_line page_line report_of
computed_counts = refl
