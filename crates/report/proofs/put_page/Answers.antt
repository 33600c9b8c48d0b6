use Rattle.rules.specs.Pages.{page_line}
use Rattle.characters.proofs.Laws.{puts_append}
use Rattle.report.proofs.put_page.Goals as goal

pub returns : goal.returns
unfolding page_line
returns c =
    let name = rw c.hex.ensures at c.put-at.ensures in
    puts_append (puts_append (puts_append name c.put_spaced-at.ensures) c.put_spaced-at-2.ensures) c.put.ensures
