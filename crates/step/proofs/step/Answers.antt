use Rattle.std.proofs.Common.{sym, ◌∙◌, le_refl}
use Rattle.step.proofs.Finish.{closes, closes_unfit, closes_full, begins, again, sized}
use Rattle.step.proofs.step.Goals as goal

pub answer-requires : goal.answer-requires
answer-requires c = (c.take-count.ensures.0, sized _ _ c.requires c.take-count.auto.image (le_refl 56))

pub returns-then-not-lines_fit : goal.returns-then-not-lines_fit
returns-then-not-lines_fit c =
    let unfit = sym c.lines_fit.ensures ∙ c.if-not-lines_fit.true in
    rw c.refusal_word.ensures (closes_unfit _ _ _ _ _ c.requires unfit)

pub returns-then-list-lt56 : goal.returns-then-list-lt56
returns-then-list-lt56 c =
    let fit = sym c.lines_fit.ensures ∙ c.if-not-lines_fit.false in
    rw c.refusal_word-then-list-lt56.ensures (closes_full _ _ _ _ _ c.requires fit c.if-list-lt56.true)

pub returns : goal.returns
returns c =
    let f = c.requires in
    let room = c.if-list-lt56.false in
    let fit = sym c.lines_fit.ensures ∙ c.if-not-lines_fit.false in
    let b = begins _ c.args.pins _ f.whole (λ j. c.fits-state j) f.formed f.image in
    let done = c.answer.ensures _ _ _ _ _ (again b) room (c.take-count.ensures.1 _ b) in
    closes _ _ _ _ _ f fit room b.bytes (rw (c.event_in-event.ensures _ b.bytes) at done)
