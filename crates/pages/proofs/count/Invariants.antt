use Prim.Native.Nat.{ℕ}
use mathlib.Core.Path.{◌≡◌}
use mathlib.Core.List.{List}
use Rattle.rules.specs.Pages.{counted}
use Rattle.pages.proofs.count.Given as goal

pub record Raised (reads₀ writes₀ list reads writes : List ℕ) (k : ℕ) : Type 0 where
  pub reads_raised : reads ≡ counted 0 reads₀ list k
  pub writes_raised : writes ≡ counted 1 writes₀ list k

abbrev pub invariant-loop-access : goal.invariant-loop-access
invariant-loop-access l = Raised l.fn.reads l.fn.writes l.list l.reads l.writes l.access-index
