use Rattle.std.proofs.Common.{refl, le_refl}
use Rattle.rules.specs.Basics.{at}
use Rattle.step.proofs.Finish.{closes, closes_full, quiet_fits, begins, again, sized}
use Rattle.rules.specs.Interrupts.{event_of}
use Rattle.rules.specs.declared.Event.TheVariants.{Execute}
use Rattle.step.proofs.quiet.Goals as goal

pub execute-count-requires : goal.execute-count-requires
execute-count-requires c = sized _ _ c.requires refl c.if-list-lt56.false

pub answer-requires : goal.answer-requires
answer-requires c = (c.execute-count.ensures.0, sized _ _ c.requires c.execute-count.auto.image (le_refl 56))

pub returns-then-list-lt56 : goal.returns-then-list-lt56
returns-then-list-lt56 c =
    rw c.refusal_word.ensures (closes_full _ _ _ 0 0 c.requires (quiet_fits (at c.args.state.now 0)) c.if-list-lt56.true)

pub returns : goal.returns
unfolding event_of
returns c =
    let f = c.requires in
    let room = c.if-list-lt56.false in
    let b = begins _ 0 _ f.whole (λ j. c.fits-state j) f.formed f.image in
    closes _ _ _ 0 0 f (quiet_fits (at c.args.state.now 0)) room b.bytes
    (c.answer.ensures Execute _ _ _ _ (again b) room (c.execute-count.ensures.1 _ b))
