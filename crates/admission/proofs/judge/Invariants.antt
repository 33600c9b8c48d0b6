use Rattle.std.proofs.Common.{◌≡◌, ◌+◌, drop, Ok, Err}
use Rattle.rules.specs.Bus.{images}
use Rattle.rules.specs.Answers.{tested}
use Rattle.admission_rules.specs.Admission.{marks_in, of_records, rule_tests}
use Rattle.admission.proofs.Judged.{from, asked}
use Rattle.admission.proofs.judge.Given as goal

-- no rule is broken yet, and the successors of record i that are left, and the records after it, say what all of them say
abbrev pub invariant-loop-s : goal.invariant-loop-s
invariant-loop-s l =
    let tests = rule_tests images l.image l.c l.map in
    let n = marks_in l.map in
    (l.verdict ≡ Ok tt) × (tested (of_records tests 0 n) Err (Ok tt)
    ≡ asked l.map l.i (drop l.s-index l.s-items) (from tests (l.i + 1) n (Ok tt)))

-- and so do the records from i on
abbrev pub invariant-records : goal.invariant-records
invariant-records l =
    let tests = rule_tests images l.image l.c l.map in
    let n = marks_in l.map in
    (l.verdict ≡ Ok tt) × (tested (of_records tests 0 n) Err (Ok tt) ≡ from tests l.i n (Ok tt))
