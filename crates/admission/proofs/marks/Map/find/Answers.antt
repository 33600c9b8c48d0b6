use Rattle.std.proofs.Common.{[], ap, sym, ◌∙◌}
use Rattle.admission_rules.specs.declared.Mark.{Mark}
use Rattle.admission.specs.Maps.{mark_of}
use Rattle.admission.proofs.marks.Maps.{found_at}
use Rattle.admission.proofs.marks.Map.find.Goals as goal

pub returns-in-Some : goal.returns-in-Some
returns-in-Some c =
    let rs = c.self.inside.records.now in
    let there = (rw c.in-Some.is at c.get.ensures.lookup).3 in
    let is = sym (ap mark_of (there.1 [])) ∙ sym c.mark_of.ensures in
    let address = ap (λ (m : Mark). m.address) is ∙ c.if-mark_of-address.true in
    rw c.self.view_is at (found_at rs c.args.address c.self.invariant.ascending c.args.likely there.0 address)
