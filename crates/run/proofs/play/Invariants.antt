use Prim.Native.Nat.{ℕ, ◌*◌, ◌≤◌}
use mathlib.Core.Path.{◌≡◌}
use mathlib.Core.List.{List}
use lib.ListN.{length, drop}
use Rattle.rules.specs.Bus.{images}
use Rattle.rules.specs.Run.{start, play}
use Rattle.checks.specs.Checks.{Fits}
use Rattle.run.specs.Plays.{standing}
use Rattle.run.proofs.play.Given as goal

pub record Running (state₀ image₀ script accesses₀ state image accesses : List ℕ) (steps listed : ℕ) : Type 0 where
  pub fits : Fits state image
  pub room : 8 * listed ≤ length accesses
  pub image_size : length image ≡ length image₀
  pub accesses_size : length accesses ≡ length accesses₀
  pub plays :
      play images script (start state₀ image₀ accesses₀) ≡
      play images (drop (steps * 2) script) (standing steps listed state image accesses)

abbrev pub invariant-loop-done : goal.invariant-loop-done
invariant-loop-done l = Running l.initial.state l.initial.image l.script l.initial.accesses l.state l.image l.accesses l.done l.count
