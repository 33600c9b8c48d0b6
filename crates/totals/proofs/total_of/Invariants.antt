use Prim.Native.Nat.{ℕ, ◌+◌, ◌*◌, ◌≤◌}
use mathlib.Core.Path.{◌≡◌}
use mathlib.Core.List.{List}
use lib.ListN.{length, take}
use Rattle.rules.specs.Pages.{sum}
use Rattle.totals.proofs.total_of.Given as goal

pub record Summed (reads writes : List ℕ) (high low k : ℕ) : Type 0 where
  pub halves : high * 4294967296 + low ≡ sum (take k reads) + sum (take k writes)
  pub high_few : high ≤ k * 8589934590
  pub low_few : low ≤ k * 8589934590

abbrev pub invariant-loop-r : goal.invariant-loop-r
invariant-loop-r l = Summed l.reads l.writes l.high l.low (length l.yielded)
