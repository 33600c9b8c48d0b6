use borrow.Author.Rules.{rules}
use Rattle.pages.proofs.Feeding.{stopped, goes_on}
use Rattle.pages.proofs.feed.Goals as goal

pub returns-in_err-judged : goal.returns-in_err-judged
returns-in_err-judged c =
    let e = stopped c.args.reads.now c.args.writes.now c.args.list.now _ c.judged.ensures _ c.in_err-judged.was in search rules

pub returns-then-not-room_for : goal.returns-then-not-room_for
returns-then-not-room_for c =
    rw (goes_on _ _ _ _ c.judged.ensures c.in_ok-judged.was, ← c.room_for.ensures, c.if-not-room_for.true)

pub returns : goal.returns
returns c =
    rw (c.count.ensures.0, c.count.ensures.1, goes_on _ _ _ _ c.judged.ensures c.in_ok-judged.was, ← c.room_for.ensures)
    (rw c.if-not-room_for.false)
