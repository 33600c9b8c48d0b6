use Rattle.std.proofs.Common.{◌∙◌}
use Rattle.state.proofs.Registers.{holds, makes_p}
use Rattle.operations.proofs.compared.Goals as goal

pub returns : goal.returns
returns c =
    λ s e. rw (c.flags_of-f.ensures ∙ (holds s e).p)
    at (makes_p c.compare.ensures c.set_flags.ensures s e)
