use Prim.Native.Nat.{◌/◌, ◌%◌}
use mathlib.Core.Path.{◌≡◌}
use lib.ListN.{get_or}
use borrow.Author.Rules.{rules}
use Rattle.rules.specs.Record.{record_of}
use Rattle.step.proofs.set_cycles.Goals as goal

pub returns : goal.returns
unfolding record_of
returns c = λ s e.
    let n = c.args.n in
    let bytes = c.to_le_bytes.result in
    let first : get_or bytes 0 0 ≡ n % 256 = search rules in
    let second : get_or bytes 1 0 ≡ n / 256 % 256 = search rules in
    let third : get_or bytes 2 0 ≡ n / 65536 % 256 = search rules in
    let fourth : get_or bytes 3 0 ≡ n / 16777216 = search rules in
    rw (e, first, second, third, fourth)
