use Rattle.std.proofs.Common.{true, refl, ◌∙◌}
use Rattle.laws.proofs.Goes.{does, ended, then_call}
use Rattle.rules.specs.Cycles.{done, ◌>>=◌}
use Rattle.rules.specs.Flags.{with_i}
use Rattle.rules.specs.Operations.{enter, down, with_pc, with_p, with_s}
use Rattle.state.proofs.Registers.{holds, makes_pc, makes_s, makes_p}
use Rattle.sequence.proofs.enter.Goals as goal

pub returns : goal.returns
unfolding enter ◌>>=◌
returns c =
    λ s h.
    let sp = (holds s h.bytes).s in
    let flagged = makes_p c.with_i-f.ensures c.set_flags.ensures s h.bytes in
    let lowered = makes_s c.down.ensures c.set_s.ensures _ flagged in
    does s
    (rw (c.flags_of.ensures ∙ (holds s h.bytes).p, sp)
    at (makes_pc {pc = c.word_at-to.result} refl c.set_pc.ensures _ lowered))
    (then_call (λ a. done (with_pc a (with_p (with_i true s.cpu.p) (with_s (down 3 s.cpu.s) s.cpu))))
    (c.word_at-to.ensures s h)
    ended)
