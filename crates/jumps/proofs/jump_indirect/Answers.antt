use mathlib.Core.Path.{refl}
use Rattle.rules.specs.Cycles.{done, ◌>>=◌}
use Rattle.rules.specs.Operations.{with_pc, jump_indirect}
use Rattle.laws.proofs.Goes.{does, ended, then_call}
use Rattle.state.proofs.Registers.{makes_pc}
use Rattle.jumps.proofs.jump_indirect.Goals as goal

pub returns : goal.returns
unfolding jump_indirect ◌>>=◌
returns c = λ s h.
    let word = rw c.old_page-next.ensures at (c.word_at-to.ensures s h) in
    does s (makes_pc {pc = c.word_at-to.result} refl c.set_pc.ensures s h.bytes)
    (then_call (λ to. done (with_pc to s.cpu)) word ended)
