use Rattle.std.proofs.Common.{sym, ap, ◌∙◌, rules}
use Rattle.admission_rules.specs.Admission.{tests_of}
use Rattle.admission.proofs.Judged.{breaks, leads, none_there, leads_on, leads_astray, all_led}
use Rattle.admission.proofs.judge.Goals.{in_default-via-in-None-1, in_default-via-in-Some+else-not-is_reached}
use Rattle.admission.proofs.judge.Goals as goal

pub loop-s-init : goal.loop-s-init
loop-s-init c =
    let within = rw c.len-i-end.ensures at c.records-test.true in
    let tests = ap (tests_of c.args.map.now c.records.i) (sym c.rules_at.ensures ∙ c.in-Ok.is) in
    (c.records.invariant.0, rw (sym c.in_order-s-items.ensures) at (c.records.invariant.1 ∙ leads _ _ _ _ within _ tests))

pub loop-s-preserved : goal.loop-s-preserved
loop-s-preserved c =
    let turn = c.loop-s-test.true in
    let order = c.in_order-s-items.ensures in
    elim c.in_default.branch [
      | in_default-via-in-None-1 w ↦ (c.loop-s.invariant.0, c.loop-s.invariant.1 ∙ none_there _ _ _ _ order _ _ turn (search rules))
      | in_default-via-in-Some+else-not-is_reached w ↦
          let reached = sym w.is_reached.ensures ∙ w.if-not-is_reached.false in
          (c.loop-s.invariant.0, c.loop-s.invariant.1 ∙ leads_on _ _ _ _ order _ _ turn _ w.in-Some.is reached)
    ]

pub records-preserved : goal.records-preserved
records-preserved c =
    (c.loop-s.invariant.0, c.loop-s.invariant.1 ∙ all_led _ _ _ _ c.in_order-s-items.ensures _ _ c.loop-s-test.false)

pub returns-in-Err : goal.returns-in-Err
returns-in-Err c =
    let within = rw c.len-i-end.ensures at c.records-test.true in
    let tests = ap (tests_of c.args.map.now c.records.i) (sym c.rules_at.ensures ∙ c.in-Err.is) in
    sym (c.records.invariant.1 ∙ breaks _ c.args.map.now _ _ within _ tests)

pub returns-then-not-is_reached : goal.returns-then-not-is_reached
returns-then-not-is_reached c =
    let astray = sym c.is_reached.ensures ∙ c.if-not-is_reached.true in
    sym (c.loop-s.invariant.1 ∙ leads_astray _ _ _ _ c.in_order-s-items.ensures _ _ c.loop-s-test.true _ c.in-Some.is astray)
