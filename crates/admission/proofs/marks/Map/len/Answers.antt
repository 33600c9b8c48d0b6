use Rattle.std.proofs.Common.{sym, ap, ◌∙◌}
use Rattle.admission_rules.specs.Admission.{marks_in}
use Rattle.admission.proofs.Chunks.{marks_in-bytes_of}
use Rattle.admission.proofs.marks.Map.len.Goals as goal

pub returns : goal.returns
returns c = sym (marks_in-bytes_of _) ∙ ap marks_in c.self.view_is
