use Rattle.laws.proofs.Goes.{reads}
use Rattle.reads.proofs.read.Goals as goal

pub returns : goal.returns
returns c =
    λ s κ h. reads _ κ _ _ _ _ s.bus _ _ _ (c.look-v.ensures s κ h) h.wired.bank c.note_read.ensures
