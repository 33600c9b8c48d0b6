use mathlib.Core.Path.{refl}
use Rattle.state.proofs.Registers.{makes_pc}
use Rattle.processor.proofs.addressing.past.Goals as goal

pub returns : goal.returns
returns c =
    λ s e p. rw p at (makes_pc refl c.set_pc.ensures s e)
