use Rattle.std.proofs.Common.{sym, ◌∙◌, arith}
use Rattle.admission.proofs.Chunks.{mark_at-bytes_of}
use Rattle.admission.proofs.marks.Maps.{ascends-next}
use Rattle.admission.proofs.marks.ascends.Goals as goal

pub returns-else-i-eq0 : goal.returns-else-i-eq0
returns-else-i-eq0 c =
    let rs = c.args.records.now in
    let before = c.mark_of.ensures ∙ sym (mark_at-bytes_of rs _ (omega arith)) in
    let here = c.mark_of-else-i-eq0.ensures ∙ sym (mark_at-bytes_of rs _ c.requires) in
    ascends-next _ _ c.if-i-eq0.false _ _ before here
