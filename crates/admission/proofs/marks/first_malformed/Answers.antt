use Rattle.std.proofs.Common.{◌≡◌, ℕ, ◌<◌, ◌≤◌, true, false, List, Option, Some, None, length, rules, arith}
use Rattle.std.specs.Option.{MatchOption}
use Rattle.std.proofs.lemmas.Iterator.{first_from_Range}
use Rattle.admission.specs.Maps.{bytes_of, formed, Formed}
use Rattle.admission.proofs.Chunks.{marks_in-bytes_of}
use Rattle.admission.proofs.marks.first_malformed.Goals as goal

told : (rs : List (List ℕ)) (r : Option ℕ) →
    MatchOption r ((k : ℕ) → 0 ≤ k → k < length rs → formed (bytes_of rs) k ≡ true)
    (λ i. (0 ≤ i) × (i < length rs) × (formed (bytes_of rs) i ≡ false) × ((k : ℕ) → 0 ≤ k → k < i → formed (bytes_of rs) k ≡ true)) →
    Formed (bytes_of rs) r
told rs None h = let count = marks_in-bytes_of rs in λ k l. h k (omega arith) (omega arith)
told rs (Some i) h =
    let count = marks_in-bytes_of rs in
    record { within = omega (arith, h.1); before = λ k l. h.3 k (omega arith) l; bad = h.2 }

pub returns : goal.returns
returns c =
    let rs = c.args.records.now in
    told rs c.find.result
    (first_from_Range _ _ _ c.find.result (λ i. formed (bytes_of rs) i ≡ false) (λ i. formed (bytes_of rs) i ≡ true) c.find.ensures.ran
    (λ x q k. search rules) (λ x q k. search rules))
