use Prim.Native.Nat.{◌+◌, ◌*◌, ◌/◌, ◌<◌}
use native.Mathlib.Omega.{arith}
use mathlib.Core.Path.{◌≡◌, ◌∙◌}
use lib.ListN.{length}
use Rattle.laws.proofs.Lists.{rest_back, in_chunk}
use Rattle.run.proofs.Plays.{lent, told_stepped, told_refused, goes_on, still_fits, still_room, stops, ends}
use borrow.Author.Rules.{rules}
use Rattle.run.proofs.play.Goals as goal

pub returns-then-word-ne0 : goal.returns-then-word-ne0
returns-then-word-ne0 c =
    let at = c.loop-done in
    let s = c.args.script.now in
    let h : at.done < length s / 2 = omega (arith, c.loop-done-test.true, at.auto.done-end, c.as_chunks.ensures.front_len) in
    let least : at.done * 2 + 1 < length s = omega (arith, h) in
    let first : at.done * 2 + 0 ≡ at.done * 2 = omega arith in
    let lines = in_chunk 2 (length s / 2) at.done 0 s h (omega arith) in
    let pins = in_chunk 2 (length s / 2) at.done 1 s h (omega arith) in
    let turn = rw (c.as_chunks.ensures.front, lines, pins, first) at c.turn-word.ensures in
    let d = told_refused _ _ _ _ _ (lent s at.state at.image at.accesses at.done at.count _ _ _ _ turn) c.if-word-ne0.true in
    let stop = stops s at.state at.image at.accesses at.done at.count d.0 _ _ _ d.2 least in
    rw (c.told.ensures.0, d.1, c.told.ensures.1, c.told.ensures.2, rest_back (8 * at.count) at.accesses _, at.invariant.plays, ← stop)

pub loop-done-preserved : goal.loop-done-preserved
loop-done-preserved c =
    let at = c.loop-done in
    let s = c.args.script.now in
    let h : at.done < length s / 2 = omega (arith, c.loop-done-test.true, at.auto.done-end, c.as_chunks.ensures.front_len) in
    let least : at.done * 2 + 1 < length s = omega (arith, h) in
    let first : at.done * 2 + 0 ≡ at.done * 2 = omega arith in
    let lines = in_chunk 2 (length s / 2) at.done 0 s h (omega arith) in
    let pins = in_chunk 2 (length s / 2) at.done 1 s h (omega arith) in
    let turn = rw (c.as_chunks.ensures.front, lines, pins, first) at c.turn-word.ensures in
    let e = told_stepped _ _ _ _ _ (lent s at.state at.image at.accesses at.done at.count _ _ _ _ turn) c.if-word-ne0.false in
    record {
      fits = still_fits s at.state at.image at.accesses at.done at.count _ _ _ _ e at.invariant.fits (search rules);
      room = omega (arith, still_room s at.state at.image at.accesses at.done at.count _ _ _ _ e at.invariant.room);
      image_size = search rules;
      accesses_size = search rules;
      plays =
          at.invariant.plays
          ∙ (rw (rest_back (8 * at.count) at.accesses _)
          (goes_on s at.state at.image at.accesses at.done at.count _ _ _ _ e least));
    }

pub returns : goal.returns
returns c =
    let at = c.loop-done in
    let s = c.args.script.now in
    let done : at.done ≡ length s / 2 = omega (arith, c.loop-done-test.false, at.auto.done-end, c.as_chunks.ensures.front_len) in
    let end = ends s at.state at.image at.accesses at.done at.count (omega (arith, c.requires.1, done)) in
    rw (c.told-2.ensures.0, c.told-2.ensures.1, c.told-2.ensures.2, c.as_chunks.ensures.front_len, ← done, at.invariant.plays, ← end)
