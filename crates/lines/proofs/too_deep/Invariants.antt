use Rattle.std.proofs.Common.{◌≡◌, ℕ, ◌≤◌, List, drop}
use Rattle.assembly_rules.specs.Lines.{too_deep}
use Rattle.lines.proofs.too_deep.Given as goal

pub record Scanned (s : List ℕ) (count i : ℕ) : Type 0 where
  pub few : count ≤ 16
  pub same : too_deep 0 s ≡ too_deep count (drop i s)

abbrev pub invariant-loop-c : goal.invariant-loop-c
invariant-loop-c l = Scanned l.s l.count l.c-index
