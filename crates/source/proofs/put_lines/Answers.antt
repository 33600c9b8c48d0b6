use Rattle.std.proofs.Common.{rules, arith}
use Rattle.std.proofs.lemmas.List.{take_rest}
use Rattle.source.proofs.Laws.{some_left, putting_room, putting_more, putting_all}
use Rattle.source.proofs.put_lines.Goals as goal

pub put_line-requires : goal.put_line-requires
put_line-requires c =
    let l = c.loop-rest in
    let some = some_left l.rest.now c.is_empty.ensures c.loop-rest-test.true in
    let room = putting_room l.invariant some c.find-found.ensures in
    let count = c.count_with-count.ensures in
    (rw count c.line_of-line.ensures.within, omega (arith, count, room, c.requires, l.auto.text))

pub loop-rest-preserved : goal.loop-rest-preserved
loop-rest-preserved c =
    let l = c.loop-rest in
    let some = some_left l.rest.now c.is_empty.ensures c.loop-rest-test.true in
    let put = rw c.count_with-count.ensures at c.put_line.ensures in
    rw (take_rest, c.size_with-size.ensures, c.count_with-count.ensures)
    (putting_more l.invariant some c.find-found.ensures c.line_of-line.ensures put)

pub returns : goal.returns
returns c = putting_all c.loop-rest.invariant (search rules)
