use native.Mathlib.Omega.{arith}
use mathlib.Core.Path.{◌≡◌}
use Prim.Native.Nat.{◌/◌, ◌%◌}
use lib.ListN.{get_or}
use borrow.Author.Rules.{rules}
use Rattle.rules.specs.Cycles.{execution, ◌>>=◌}
use Rattle.laws.proofs.Goes.{then_write, counted}
use Rattle.writes.proofs.push_pc.Goals as goal

pub returns : goal.returns
unfolding ◌>>=◌
returns c = λ t h.
    let low : get_or c.to_le_bytes.result 0 0 ≡ c.args.pc % 256 = search rules in
    let high : get_or c.to_le_bytes.result 1 0 ≡ c.args.pc / 256 = search rules in
    let first = rw high at (c.push.ensures t execution h) in
    let second = rw (c.down.ensures, low) at (c.push-2.ensures t execution h) in
    counted (then_write _ first second) (omega arith)
