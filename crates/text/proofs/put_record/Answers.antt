use Rattle.rules.specs.Text.{record_line}
use Rattle.characters.proofs.Laws.{puts_append}
use Rattle.text.proofs.put_record.Goals as goal

pub returns : goal.returns
unfolding record_line
returns c = puts_append c.put-at.ensures (puts_append c.put_bytes-at.ensures c.put.ensures)
