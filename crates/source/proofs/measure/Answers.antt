use Rattle.std.proofs.Common.{rules, ◌≡◌, ◌+◌, ◌<◌, [], length, drop, ap, ◌∙◌, arith, le-leb}
use Rattle.std.proofs.lemmas.List.{take_rest, nil_from_length}
use borrow.Author.Tests.{lt-leb}
use Rattle.assembly_rules.specs.Listing.{text_of}
use Rattle.assembly_rules.proofs.Listings.{text_none}
use Rattle.source.proofs.Laws.{some_left, longer}
use Rattle.source.proofs.measure.Goals as goal

pub returns-then-room-count : goal.returns-then-room-count
returns-then-room-count c =
    let l = c.loop-rest in
    let some = some_left l.rest.now c.is_empty.ensures c.loop-rest-test.true in
    let more = longer l.rest.now some c.find-found.ensures 0 0 in
    let all = length (text_of 0 c.args.bytes.now) in
    let few : c.args.room < all = omega (arith, more, l.invariant.counted, c.count_with-more.ensures, c.if-room-count.true) in
    rw (lt-leb all c.args.room few)

pub loop-rest-preserved : goal.loop-rest-preserved
loop-rest-preserved c =
    let l = c.loop-rest in
    let size = c.size_with.result in
    let some = some_left l.rest.now c.is_empty.ensures c.loop-rest-test.true in
    let more = rw (← c.size_with.ensures, ← c.count_with-more.ensures) at (longer l.rest.now some c.find-found.ensures 0 0) in
    let counted : l.count + c.count_with-more.result + length (text_of 0 (drop size l.rest.now)) ≡ length (text_of 0 c.args.bytes.now)
    = omega (arith, more, l.invariant.counted) in
    record { fits = omega arith; counted = rw take_rest counted }

pub returns : goal.returns
returns c =
    let l = c.loop-rest in
    let none : text_of 0 l.rest.now ≡ [] = ap (text_of 0) (nil_from_length l.rest.now (search rules)) ∙ text_none 0 in
    let all : l.count ≡ length (text_of 0 c.args.bytes.now) = omega (arith, ap length none, l.invariant.counted) in
    rw (← all, le-leb l.count c.args.room l.invariant.fits)
