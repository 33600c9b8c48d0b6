use Rattle.laws.specs.States.{moved}
use Rattle.std.proofs.Common.{refl}
use Rattle.laws.proofs.Goes.{does, ended, then_call}
use Rattle.rules.specs.Cycles.{done, ◌>>=◌}
use Rattle.rules.specs.Basics.{sum8}
use Rattle.rules.specs.Operations.{pull, to_a, with_s}
use Rattle.rules.specs.Record.{record_of}
use Rattle.state.proofs.Registers.{holds, makes_s, makes_to}
use Rattle.stacking.proofs.pla.Goals as goal

pub returns : goal.returns
unfolding pull ◌>>=◌ record_of
returns c =
    λ s h.
    let sp = (holds s h.bytes).s in
    let raised = makes_s c.up.ensures c.set_s.ensures s h.bytes in
    does s {c = to_a c.pulled-v.result (with_s (sum8 s.cpu.s 1) s.cpu)}
    (rw sp at (makes_to 1 {v = c.pulled-v.result} refl c.to.ensures
    (moved (with_s _ s.cpu) s.bus s) raised))
    (then_call (λ v. done (to_a v (with_s (sum8 s.cpu.s 1) s.cpu))) (rw sp at (c.pulled-v.ensures s h)) ended)
