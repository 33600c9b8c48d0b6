use Rattle.std.proofs.Common.{◌≡◌, ℕ, ◌+◌, ◌-◌, ◌*◌, ◌^◌, ◌<◌, ◌≤◌, List, length, drop}
use Rattle.assembly_rules.specs.Characters.{run}
use Rattle.operands.specs.declared.Word.{Word}
use Rattle.operands.proofs.run.Given as goal

pub record Running (s : List ℕ) (at base n : ℕ) (w : Word) (i : ℕ) : Type 0 where
  pub here : w.at ≡ at + i
  pub within : w.at ≤ length s
  pub few : w.left ≤ 4
  pub small : w.value < 2 * 36 ^ (4 - w.left)
  pub same : run base 4 n (drop at s) ≡ run base w.left w.value (drop w.at s)

abbrev pub invariant-loop-c : goal.invariant-loop-c
invariant-loop-c l = Running l.s l.at l.base l.n l.word l.c-index
