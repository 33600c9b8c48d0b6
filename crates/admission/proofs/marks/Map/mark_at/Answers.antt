use Rattle.std.proofs.Common.{sym, ap, ◌∙◌, arith}
use Rattle.admission_rules.specs.Admission.{marks_in, mark_at}
use Rattle.admission.proofs.Chunks.{marks_in-bytes_of, mark_at-bytes_of}
use Rattle.admission.proofs.marks.Map.mark_at.Goals as goal

pub bounds-self-inside-i : goal.bounds-self-inside-i
bounds-self-inside-i c = omega (arith, c.requires, sym (marks_in-bytes_of c.self.inside.records.now) ∙ ap marks_in c.self.view_is)

pub returns : goal.returns
returns c =
    let within = sym (marks_in-bytes_of c.self.inside.records.now) ∙ ap marks_in c.self.view_is in
    c.mark_of.ensures ∙ sym (mark_at-bytes_of c.self.inside.records.now c.args.i (omega (arith, c.requires, within)))
    ∙ ap (λ m. mark_at m c.args.i) c.self.view_is
