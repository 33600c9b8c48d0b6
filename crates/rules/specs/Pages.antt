-- Document 02, "Cycles by page": the counts of lists of accesses, and what the page report prints of them.
use Rattle.std.specs.Prelude.{ℕ, zero, suc, ◌+◌, ◌*◌, ◌/◌, ◌%◌, ◌^◌, Bool, ◌&&◌, List, [], ◌∷◌, ◌++◌, ltb, leb, eqb, length, set, replicate}
use Rattle.std.specs.Prelude.{Result, Ok, Err}
use Prim.Native.Char.{code}
use Rattle.rules.specs.declared.Refusal.{Refusal}
use Rattle.rules.specs.declared.Refusal.TheVariants.{ListLength, ListRecord, Total}
use Rattle.rules.specs.declared.Counting.{Counting}
use Rattle.rules.specs.Basics.{when◌then◌else◌, all, at}
use Rattle.rules.specs.Answers.{Test, ◌unless◌, tested, count_word}
use Rattle.rules.specs.Text.{hex, spaced, each, number_line, refusal_line}

-- Record k of a list begins at byte 8 * k: "address low, high, selected bank .. value, 0 read or 1 write", its purpose and two zeros. "On
-- the 6509 banks are ignored."
abbrev pub page_of : List ℕ → ℕ → ℕ
page_of l k = at l (8 * k + 1)

abbrev pub kind_of : List ℕ → ℕ → ℕ
kind_of l k = at l (8 * k + 4)

-- "a record with byte 4 above 1 or bytes 5 to 7 not zero gives 21", which "now judges byte 5 as 0 to 7, where 0 is a list from before this
-- change, and bytes 6 and 7 as zero"
abbrev pub is_record : List ℕ → ℕ → Bool
is_record l k = let p = 8 * k in leb (at l (p + 4)) 1 && leb (at l (p + 5)) 7 && eqb (at l (p + 6)) 0 && eqb (at l (p + 7)) 0

-- one more at a page
abbrev pub raised : List ℕ → ℕ → List ℕ
raised counts page = set counts page (at counts page + 1)

-- the counts with the accesses of one kind, 0 or 1, among the first n records of a list: "for each of the 256 pages the reads and the
-- writes"
unfoldable pub counted : ℕ → List ℕ → List ℕ → ℕ → List ℕ
counted kind counts l zero = counts
counted kind counts l (suc n) =
    let before = counted kind counts l n in when eqb (kind_of l n) kind then raised before (page_of l n) else before

unfoldable pub sum : List ℕ → ℕ
sum [] = 0
sum (x ∷ l) = x + sum l

-- how many records a list has
abbrev pub records_in : List ℕ → ℕ
records_in l = length l / 8

-- "a list whose length is no multiple of 8 gives 20, a record .. gives 21, a total of all counts that would pass 64 bits gives 22, in that
-- order"
abbrev pub form_tests : List ℕ → List Test
form_tests l = ListLength unless eqb (length l % 8) 0 ∷ ListRecord unless all (records_in l) (is_record l) ∷ []

abbrev pub count_tests : List ℕ → List ℕ → List ℕ → List Test
count_tests reads writes l = form_tests l ++ Total unless ltb (sum reads + sum writes + records_in l) (2 ^ 64) ∷ []

abbrev pub counting : Result (Unit {0}) Refusal → List ℕ → List ℕ → Counting
counting a reads writes = record { answer = a; reads = reads; writes = writes }

-- A list is fed to the counts. Where it is refused "the counts stay".
unfoldable pub fed : List ℕ → List ℕ → List ℕ → Counting
fed reads writes l =
    tested (count_tests reads writes l) (λ e. counting (Err e) reads writes)
    (counting (Ok tt) (counted 0 reads l (records_in l)) (counted 1 writes l (records_in l)))

-- "starting from all zero"
unfoldable pub none : List ℕ
none = replicate 256 0

abbrev pub counting_of : List ℕ → Counting
counting_of l = fed none none l

-- what the board is told, and the counts that are left to it
pub record PageWords : Type 0 where
  pub word : ℕ
  pub reads : List ℕ
  pub writes : List ℕ

abbrev pub page_words : Counting → PageWords
page_words k = record { word = count_word k.answer; reads = k.reads; writes = k.writes }

-- What the report prints.

-- a page with its reads and its writes
unfoldable pub page_line : ℕ → ℕ → ℕ → List ℕ
page_line page reads writes = hex page ++ spaced reads ++ spaced writes ++ code "\n" ∷ []

-- "one line per page with any traffic"
abbrev pub traffic_line : List ℕ → List ℕ → ℕ → List ℕ
traffic_line reads writes page =
    let r = at reads page in
    let w = at writes page in
    when eqb r 0 && eqb w 0 then [] else page_line page r w

-- "then the total", which 22 keeps within 64 bits
abbrev pub report_text : Result (Unit {0}) Refusal → List ℕ → List ℕ → List ℕ
report_text (Ok u) reads writes =
    let total = sum reads + sum writes in
    when ltb total (2 ^ 64) then each 256 (traffic_line reads writes) ++ number_line (code "T") total else refusal_line Total
report_text (Err e) reads writes = refusal_line e

unfoldable pub report_of : Counting → List ℕ
report_of k = report_text k.answer k.reads k.writes
