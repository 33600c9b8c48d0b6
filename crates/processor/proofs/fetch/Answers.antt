use Rattle.std.proofs.Common.{◌<◌, ◌≤◌, sym, arith}
use Rattle.rules.specs.Cycles.{execution}
use Rattle.wiring.specs.Wiring.{plain_of}
use Rattle.processor.proofs.Plain.{beside}
use Rattle.reads.proofs.Held.{look_plain}
use Rattle.processor.proofs.fetch.Goals as goal

pub returns-then-pc-lt65534 : goal.returns-then-pc-lt65534
returns-then-pc-lt65534 c =
    λ s h p.
    let w = h.wired in
    let high : plain_of s.bus.part ≤ s.cpu.pc = rw (← w.plain, ← p) c.if-w-pc.true in
    let inside : s.cpu.pc < 65534 = rw (← p) c.if-pc-lt65534.true in
    record {
      opcode = rw (w.base, p) (sym (look_plain execution s.bus _ _ w.sound.part high));
      low = rw (w.base, p) (beside execution s.bus _ _ 1 w.sound.part high (omega arith));
      high = rw (w.base, p) (beside execution s.bus _ _ 2 w.sound.part high (omega arith));
    }

pub returns : goal.returns
returns c =
    λ s h p.
    record {
      opcode = rw p at (c.look.ensures s execution h);
      low = rw p at (c.look-2.ensures s execution h);
      high = rw p at (c.look-3.ensures s execution h);
    }
