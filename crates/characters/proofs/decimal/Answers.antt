use mathlib.Core.Path.{sym, ap, ◌∙◌}
use Prim.Native.Nat.{ℕ, ◌-◌}
use lib.ListN.{length-set, set, take, drop}
use Rattle.laws.proofs.Lists.{rest_lent}
use Rattle.characters.proofs.Laws.{spells_more, spells_last}
use Rattle.characters.proofs.decimal.Goals as goal

pub loop-rest-preserved : goal.loop-rest-preserved
loop-rest-preserved c =
    let l = c.loop-rest in
    rw c.digit.ensures (spells_more _ _ l.from l.rest l.invariant c.loop-rest-test.true).1

pub returns : goal.returns
returns c =
    let l = c.loop-rest in
    let spelt = set l.bytes l.from c.digit-2.result in
    let size = length-set l.bytes l.from c.digit-2.result ∙ l.invariant.size in
    ap (λ (k : ℕ). take (k - l.from) (drop l.from spelt)) (sym size) ∙ rest_lent l.from spelt
    ∙ (rw c.digit-2.ensures (spells_last _ _ l.from l.rest l.invariant c.loop-rest-test.false))
