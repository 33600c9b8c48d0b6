use Rattle.std.proofs.Common.{rules, ◌≡◌, Err}
use Rattle.source.proofs.Laws.{fits, lists_all, lists_none}
use Rattle.source.proofs.list.Goals as goal

pub returns-in_err-count : goal.returns-in_err-count
returns-in_err-count c =
    let f = c.in_err-count.field-0.0 in
    let told : c.from_residual.result ≡ Err f = search rules in
    let measured : c.measure.result ≡ Err f = search rules in
    rw told (lists_none c.args.start c.args.bytes.now c.args.text.now c.measure.ensures measured)

pub put_lines-requires : goal.put_lines-requires
put_lines-requires c = fits c.args.start c.args.bytes.now c.args.text.now c.measure.ensures c.in_ok-count.was

pub returns : goal.returns
returns c =
    lists_all c.args.start c.args.bytes.now c.args.text.now c.measure.ensures c.in_ok-count.was c.put_lines.ensures
