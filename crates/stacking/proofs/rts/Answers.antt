use Rattle.rules.specs.Cycles.{done, read, execution, ◌>>=◌}
use Rattle.rules.specs.declared.Purpose.TheVariants.{Wasted}
use Rattle.rules.specs.Basics.{sum8, sum16}
use Rattle.rules.specs.Operations.{with_s, with_pc, rts}
use Rattle.laws.proofs.Goes.{does, ended, then_read, then_call}
use Rattle.state.proofs.Registers.{holds}
use Rattle.stacking.proofs.rts.Goals as goal

pub returns : goal.returns
unfolding rts ◌>>=◌
returns c =
    λ s h.
    let sp = (holds s h.bytes).s in
    does s
    (rw (c.up.ensures, sp) at (c.set_s_pc.ensures s h.bytes))
    (then_read _ (rw (c.stack.ensures, sp) at (c.read.ensures s execution h))
    (then_call (λ a. read Wasted execution a (λ v. done (with_pc (sum16 a 1) (with_s (sum8 s.cpu.s 2) s.cpu))))
    (rw sp at (c.word_above-a.ensures s h))
    (then_read _ (c.read-2.ensures s execution h) ended)))
