use Rattle.writes.proofs.Left.{store_byte}
use Rattle.laws.proofs.Goes.{writes}
use Rattle.rules.specs.Record.{record_of}
use mathlib.Core.Path.{◌∙◌}
use native.Mathlib.Omega.{arith}
use Rattle.writes.proofs.push.Goals as goal

pub returns : goal.returns
unfolding record_of
returns c = λ t κ h.
    let w = h.wired in
    let left = rw h.bytes at c.put.ensures in
    writes _ κ _ _ _ _ t.bus t.bus _ _ _ _ (store_byte _ _ _ w (λ l. absurd (omega arith)) ∙ (rw left)) w.bank
    c.note_write.ensures
