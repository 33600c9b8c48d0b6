use Rattle.std.proofs.Common.{◌-◌, length, sym, ◌∙◌, arith}
use Rattle.operands.proofs.Summed.{sum_none, sum_more, term_bracket, term_other}
use Rattle.operands.proofs.+sum_term.Goals as goal

pub sum-returns-in_err-t-in-Some : goal.sum-returns-in_err-t-in-Some
sum-returns-in_err-t-in-Some t c =
    let l = c.loop-k in
    let s = c.args.s.now in
    sum_none s c.args.at c.args.depth (length s - l._k) l.f l.invariant (omega arith) c.next-n.result c.in-Some.sign
    c.next-n.ensures c.in-Some.is (sym c.is_sign.ensures ∙ c.if-is_sign.true) _ (c.in_err-t-in-Some.ensures {u = tt})
    c.from_residual-in_err-t-in-Some.ensures

pub sum-loop-k-preserved : goal.sum-loop-k-preserved
sum-loop-k-preserved t c =
    let l = c.loop-k in
    let s = c.args.s.now in
    sum_more s c.args.at c.args.depth (length s - l._k) l.f l.invariant (omega arith) c.next-n.result c.in-Some.sign
    c.next-n.ensures c.in-Some.is (sym c.is_sign.ensures ∙ c.if-is_sign.true) c.in_ok-t-in-Some.t _ _
    (c.in_ok-t-in-Some.ensures {u = tt}) c.total.ensures (omega arith)

pub term-returns-in_ok-sum-in-Some-eq91 : goal.term-returns-in_ok-sum-in-Some-eq91
term-returns-in_ok-sum-in-Some-eq91 t c =
    let a = c.in-Some-eq91 in
    let d = c.in_ok-checked_sub-in-Some-eq91 in
    term_bracket c.args.s.now c.args.at c.args.depth a.field-0 c.next-n.result c.next-n.ensures a.is d.field-0
    c.in_ok-sum-in-Some-eq91.field-0 c.closed.result (sym a.field-0-is ∙ a.field-0-test)
    (rw (d.was {u = tt}) at c.checked_sub.ensures) (c.in_ok-sum-in-Some-eq91.ensures {u = tt}) c.closed.ensures

pub term-returns-in_default : goal.term-returns-in_default
term-returns-in_default t c =
    let a = c.in_default in
    term_other c.args.s.now c.args.at c.args.depth a.field-0 c.next-n.result c.next-n.ensures a.is
    (λ e. a.field-0-test.0.1 (a.field-0-is ∙ e)) (λ e. a.field-0-test.1 (a.field-0-is ∙ e))
