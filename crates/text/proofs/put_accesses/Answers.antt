use native.Mathlib.Omega.{arith}
use mathlib.Core.Path.{refl, ap, ◌∙◌}
use mathlib.Core.List.{List, []}
use Prim.Native.Nat.{ℕ}
use lib.ListN.{length, take, get_or}
use lib.Seq.{length-take-le}
use Rattle.rules.specs.Text.{each, line_of}
use Rattle.characters.proofs.Laws.{puts_each}
use Rattle.text.proofs.Laws.{each_length, line_length, line_at}
use Rattle.text.proofs.put_accesses.Goals as goal

pub loop-access-init : goal.loop-access-init
unfolding each
loop-access-init c = record { end = refl; text = refl }

pub put-at-requires : goal.put-at-requires
put-at-requires c =
    let l = c.loop-access in
    let chunks = c.as_chunks.result.0.now in
    let so_far = each_length (line_of c.args.list.now) 14 (line_length c.args.list.now) l.access-index in
    let one =
    ap (λ (line : List ℕ). length line) c.line_of.ensures ∙ line_length (get_or (take c.args.n chunks) l.access-index []) 0 in
    let all = length-take-le c.args.n chunks (omega (arith, c.as_chunks.ensures.front_len, c.told-list, c.requires.0)) in
    omega (arith, so_far, one, all, c.loop-access-test.true, l.invariant.end, l.auto.text, c.requires.1)

pub loop-access-preserved : goal.loop-access-preserved
loop-access-preserved c =
    let k = c.loop-access.access-index in
    let n = c.args.n in
    let list = c.args.list.now in
    let all =
    length-take-le n c.as_chunks.result.0.now (omega (arith, c.as_chunks.ensures.front_len, c.told-list, c.requires.0)) in
    let below = c.loop-access-test.true in
    let here = line_at n 7 k list (omega (arith, all, below)) (omega (arith, all, below, c.requires.0)) in
    let line = rw (c.line_of.ensures, c.as_chunks.ensures.front) at c.put-at.ensures in
    puts_each (line_of list) k c.loop-access.invariant (rw (c.told-list, here) at line)
