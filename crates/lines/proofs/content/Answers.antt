use Rattle.std.proofs.Common.{rules, tests, ap, unwrap_or, length, ◌∙◌, ℕ, Option}
use Rattle.std.proofs.lemmas.Iterator.{YieldsList-from_slice}
use Rattle.std.proofs.lemmas.Iterator.Search.{position_from_yields_List}
use Rattle.lines.proofs.Laws.{is_comment, content_found}
use Rattle.lines.proofs.content.Goals as goal

pub returns : goal.returns
returns c =
    let found = position_from_yields_List is_comment _ _ c.position.result c.position.ensures.ran
    (YieldsList-from_slice _ c.iter.ensures.rest) (λ x b q k. search (rules, tests)) in
    content_found c.args.l.now c.unwrap_or.result
    (c.unwrap_or.ensures ∙ ap (λ (o : Option ℕ). unwrap_or o (length c.args.l.now)) found)
