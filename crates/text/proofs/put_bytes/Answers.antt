use native.Mathlib.Omega.{arith}
use mathlib.Core.Path.{refl, ap}
use mathlib.Core.List.{List}
use Prim.Native.Nat.{ℕ}
use lib.ListN.{length}
use Rattle.rules.specs.Basics.{at}
use Rattle.rules.specs.Text.{each, hex}
use Rattle.characters.proofs.Laws.{puts_each}
use Rattle.text.proofs.Laws.{each_length}
use Rattle.text.proofs.put_bytes.Goals as goal

pub loop-byte-init : goal.loop-byte-init
unfolding each
loop-byte-init c = record { end = omega arith; text = refl }

pub put-at-requires : goal.put-at-requires
put-at-requires c =
    let l = c.loop-byte in
    let size = each_length (λ j. hex (at c.args.state.now j)) 2 (λ j. refl) l.byte-index in
    let two = ap (λ (digits : List ℕ). length digits) c.hex.ensures in
    omega (arith, size, two, l.invariant.end, l.auto.text, c.requires)

pub loop-byte-preserved : goal.loop-byte-preserved
loop-byte-preserved c =
    puts_each (λ j. hex (at c.args.state.now j)) c.loop-byte.byte-index c.loop-byte.invariant (rw c.hex.ensures at c.put-at.ensures)
