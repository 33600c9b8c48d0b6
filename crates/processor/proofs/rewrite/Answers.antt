use Rattle.processor.proofs.Back.{back}
use Rattle.std.proofs.Common.{refl, ◌∙◌, arith}
use Rattle.laws.proofs.Goes.{ended, then_write, counted}
use Rattle.rules.specs.Cycles.{execution, ◌>>=◌}
use Rattle.state.proofs.Registers.{holds, makes_p}
use Rattle.processor.proofs.rewrite.Goals as goal

pub returns : goal.returns
unfolding ◌>>=◌
returns c =
    λ s h e.
    let made = rw (c.flags_of-f.ensures ∙ (holds s h.bytes).p) at c.changed-made.ensures in
    let one = c.write.ensures s execution h in
    let again = c.write-2.ensures _ execution (back h e one) in
    let two = rw made at again in
    record {
      cpu = _;
      bus = _;
      bytes = rw made at (makes_p {f = c.changed-made.result.flags} refl c.set_flags.ensures _ again.bytes);
      goes = then_write _ one.goes (then_write _ two.goes (counted ended (omega arith)));
    }
