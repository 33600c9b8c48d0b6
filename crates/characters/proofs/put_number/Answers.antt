use Rattle.rules.specs.Text.{number_line}
use Rattle.characters.proofs.Laws.{puts_append}
use Rattle.characters.proofs.put_number.Goals as goal

pub returns : goal.returns
unfolding number_line
returns c = puts_append c.put-at.ensures (puts_append c.put_spaced-at.ensures c.put.ensures)
