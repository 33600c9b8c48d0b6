use Rattle.std.proofs.Common.{rules, ◌+◌, arith, length-drop, add-one}
use Rattle.std.proofs.lemmas.List.{take_rest}
use Rattle.assembler.proofs.Laws.{first_line, only_line}
use Rattle.assembler.proofs.cut.Goals as goal

pub returns-in-Some : goal.returns-in-Some
returns-in-Some c =
    let text = c.args.text.now in
    let same = first_line text c.in-Some.end (search rules) (search rules) (search rules) in
    record {
      shorter = rw take_rest (omega (arith, length-drop (c.in-Some.end + 1) text, c.requires));
      same = rw (take_rest, c.without_cr.ensures, add-one) same;
    }

pub returns-in-None : goal.returns-in-None
returns-in-None c = record { shorter = c.requires; same = only_line c.args.text.now c.requires (search rules) }
