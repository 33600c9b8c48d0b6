use mathlib.Core.Path.{sym, ◌∙◌}
use Rattle.laws.proofs.Lists.{rest_lent, rest_back}
use Rattle.text.proofs.Printing.{print_short, print_malformed, print_length, print_step, few}
use Rattle.text.proofs.print.Goals as goal

pub returns-in_default : goal.returns-in_default
returns-in_default c = print_short _ _ _ _ c.in_default.ensures.cases c.put_refusal.ensures

pub returns-then-not-well_formed : goal.returns-then-not-well_formed
returns-then-not-well_formed c =
    let front = c.in-Some.ensures.cases in
    let bad = sym c.well_formed-2.ensures ∙ c.if-not-well_formed.true in
    print_malformed _ _ _ _ front.enough (rw front.same at bad) c.put_refusal-then-not-well_formed.ensures

pub returns-then-input-ne65554 : goal.returns-then-input-ne65554
returns-then-input-ne65554 c =
    let front = c.in-Some.ensures.cases in
    let well = sym c.well_formed-2.ensures ∙ c.if-not-well_formed.false in
    print_length _ _ _ _ front.enough (rw front.same at well) c.if-input-ne65554.true
    c.put_refusal-then-input-ne65554.ensures

pub put_answer-requires : goal.put_answer-requires
put_answer-requires c = few _ _ _ _ _ _ _ _ _ c.step-word.ensures

pub returns : goal.returns
returns c =
    let front = c.in-Some.ensures.cases in
    let i = c.args.input.now in
    let well = sym c.well_formed-2.ensures ∙ c.if-not-well_formed.false in
    let made = rw (rest_lent 18 i, front.same) at c.step-word.ensures in
    rw (rest_back 18 i c.step-word.new.image)
    (print_step i _ _ _ front.enough (rw front.same at well) _ _ _ _ c.if-input-ne65554.false made c.put_answer.ensures)
