use Rattle.std.proofs.Common.{rules, tests, subst, sym, ◌∙◌, arith}
use Rattle.std.proofs.lemmas.Iterator.{YieldsList-from_slice}
use Rattle.std.proofs.lemmas.Iterator.Search.{position_from_yields_List}
use Rattle.operands.proofs.Laws.{is_solid, Skipped, skipped}
use Rattle.operands.proofs.skip.Goals as goal

pub returns-in-Some : goal.returns-in-Some
returns-in-Some c =
    let found = position_from_yields_List is_solid _ _ c.position.result c.position.ensures.ran
    (YieldsList-from_slice _ c.iter.ensures.rest) (λ x b q k. search (rules, tests)) in
    subst (Skipped c.args.s.now c.args.at) (sym found ∙ c.in-Some.is) (skipped c.args.s.now c.args.at)

pub returns-in-None : goal.returns-in-None
returns-in-None c =
    let found = position_from_yields_List is_solid _ _ c.position.result c.position.ensures.ran
    (YieldsList-from_slice _ c.iter.ensures.rest) (λ x b q k. search (rules, tests)) in
    (subst (Skipped c.args.s.now c.args.at) (sym found ∙ c.in-None.is) (skipped c.args.s.now c.args.at), omega arith)
