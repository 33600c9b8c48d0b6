use Rattle.rules.specs.declared.Purpose.TheVariants.{Stack}
use Rattle.rules.specs.Addressing.{word_at}
use Rattle.rules.specs.Operations.{stack, rti, with_pc, with_p, with_s}
use Rattle.laws.proofs.Goes.{does, ended, then_call}
use Rattle.rules.specs.Cycles.{done, ◌>>=◌}
use Rattle.rules.specs.Basics.{sum8}
use Rattle.rules.specs.Flags.{flags_of}
use Rattle.state.proofs.Registers.{holds, makes_p}
use Rattle.stacking.proofs.rti.Goals as goal

pub returns : goal.returns
unfolding rti ◌>>=◌
returns c =
    λ s h.
    let sp = (holds s h.bytes).s in
    let flagged = makes_p c.flags_of.ensures c.set_flags.ensures s h.bytes in
    does s (rw (c.up-3.ensures, sp) at (c.set_s_pc.ensures _ flagged))
    (then_call (λ p. word_at Stack (stack (sum8 s.cpu.s 2)) (stack (sum8 s.cpu.s 3)) >>=
    λ a. done (with_pc a (with_p (flags_of p) (with_s (sum8 s.cpu.s 3) s.cpu))))
    (rw sp at (c.pulled-p.ensures s h))
    (then_call (λ a. done (with_pc a (with_p (flags_of c.pulled-p.result) (with_s (sum8 s.cpu.s 3) s.cpu))))
    (rw (c.stack-three.ensures, c.up-2.ensures, c.stack-two.ensures, c.up.ensures, sp)
    at (c.word_at-to.ensures s h))
    ended))
