use mathlib.Core.Path.{◌∙◌}
use Rattle.decode.proofs.Decodes.{fields_say}
use Rattle.decode.proofs.decode.Goals as goal

pub returns : goal.returns
returns c =
    c.by_fields.ensures ∙ fields_say _ _ c.args.opcode c.ranges.opcode.fits
