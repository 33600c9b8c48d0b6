use native.Mathlib.Omega.{arith}
use Rattle.rules.specs.Text.{line_of}
use Rattle.characters.proofs.Laws.{puts_append, puts_shown}
use Rattle.text.proofs.Laws.{each_length, line_length}
use Rattle.text.proofs.Shown.{count_length, step_most}
use Rattle.text.proofs.put_step.Goals as goal

pub put_number-at-requires : goal.put_number-at-requires
put_number-at-requires c =
    let size = each_length (line_of c.args.list.now) 14 (line_length c.args.list.now) c.args.n in
    omega (arith, size, c.put_accesses-at.ensures.end, c.told-text, c.requires)

pub put_record-requires : goal.put_record-requires
put_record-requires c =
    let size = each_length (line_of c.args.list.now) 14 (line_length c.args.list.now) c.args.n in
    let count = count_length c.args.n c.requires in
    omega (arith, size, count, c.put_accesses-at.ensures.end, c.put_number-at.ensures.end, c.told-text, c.requires)

pub returns : goal.returns
returns c =
    let most = step_most c.args.n c.args.state.now c.args.list.now c.requires in
    puts_shown (puts_append (puts_append c.put_accesses-at.ensures c.put_number-at.ensures) c.put_record.ensures)
    (omega (arith, most, c.told-text))
