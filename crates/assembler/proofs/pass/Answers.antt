use Rattle.std.proofs.Common.{rules, ◌≡◌, Ok, Err, sym, ◌∙◌}
use Rattle.std.proofs.lemmas.List.{nil_from_length}
use Rattle.assembler.proofs.Passed.{pass_over, pass_bad, pass_stop, pass_more}
use Rattle.assembler.proofs.pass.Goals as goal

pub returns-in_err-l : goal.returns-in_err-l
returns-in_err-l c =
    let l = c.loop-rest in
    let bad = c.in_err-l.field-0.0 in
    let told : c.from_residual.result ≡ Err bad = search rules in
    let why : c.line_of-told.result ≡ Err bad.fault = search rules in
    let here : bad.line ≡ l.n = search rules in
    rw told (pass_bad l.invariant c.cut.ensures (rw c.address_of.ensures at c.line_of-told.ensures) bad why here)

pub returns-in_err-total : goal.returns-in_err-total
returns-in_err-total c =
    let l = c.loop-rest in
    let bad = c.in_err-total.field-0.0 in
    let line : c.line_of-told.result ≡ Ok c.in_ok-l.l = search rules in
    let told : c.from_residual-in_err-total.result ≡ Err bad = search rules in
    let why : c.step_to.result ≡ Err bad.fault = search rules in
    let here : bad.line ≡ l.n = search rules in
    rw told
    (pass_stop l.invariant c.cut.ensures (rw c.address_of.ensures at c.line_of-told.ensures) line l.auto.bytes bad
    (sym c.step_to.ensures ∙ why) here)

pub loop-rest-preserved : goal.loop-rest-preserved
loop-rest-preserved c =
    let l = c.loop-rest in
    let line : c.line_of-told.result ≡ Ok c.in_ok-l.l = search rules in
    let goes : c.step_to.result ≡ Ok c.in_ok-total.total = search rules in
    pass_more l.invariant c.cut.ensures (rw c.address_of.ensures at c.line_of-told.ensures) line l.auto.bytes (sym c.step_to.ensures ∙ goes)
    c.put_if.ensures

pub returns : goal.returns
returns c = pass_over c.loop-rest.invariant (nil_from_length c.loop-rest.rest.now (search rules))
