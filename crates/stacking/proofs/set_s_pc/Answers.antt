use Rattle.std.proofs.Common.{refl}
use Rattle.rules.specs.Operations.{with_s}
use Rattle.laws.specs.States.{moved}
use Rattle.state.proofs.Registers.{makes_pc, makes_s}
use Rattle.stacking.proofs.set_s_pc.Goals as goal

pub returns : goal.returns
returns c =
    λ s e. makes_pc refl c.set_pc.ensures (moved (with_s _ s.cpu) s.bus s)
    (makes_s refl c.set_s.ensures s e)
