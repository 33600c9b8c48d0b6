use Rattle.std.proofs.Common.{◌≡◌, true, false, sym, ◌∙◌}
use Rattle.admission.specs.Maps.{bytes_of, shaped}
use Rattle.admission.proofs.Chunks.{shaped-bytes_of}
use Rattle.admission.proofs.marks.is_formed.Goals as goal

pub returns-then-is_shaped : goal.returns-then-is_shaped
returns-then-is_shaped c =
    let rs = c.args.records.now in
    let is : shaped (bytes_of rs) c.args.i ≡ true = shaped-bytes_of rs _ c.requires ∙ sym c.is_shaped.ensures ∙ c.if-is_shaped.true in
    rw is c.ascends.ensures

pub returns-else-is_shaped : goal.returns-else-is_shaped
returns-else-is_shaped c =
    let rs = c.args.records.now in
    let is : shaped (bytes_of rs) c.args.i ≡ false = shaped-bytes_of rs _ c.requires ∙ sym c.is_shaped.ensures ∙ c.if-is_shaped.false in
    rw is c.if-is_shaped.false
