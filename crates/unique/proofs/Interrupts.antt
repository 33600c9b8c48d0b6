-- The same of the interrupts and RES.
use mathlib.Core.Path.{ap}
use Rattle.rules.specs.declared.State.{State}
use Rattle.rules.specs.Cycles.{execution}
use Rattle.wiring.specs.Wiring.{Stands}
use Rattle.interrupts.proofs as its
use Rattle.unique.proofs.General.{UniqueWhere}
use Rattle.unique.proofs.Relations.{does, lent_1_3_4, lent_0_3}

pub interrupt : (s : State) →
    UniqueWhere its.interrupt.Kinds.ps its.interrupt.Kinds.r
    (λ κs a. Stands execution s a.1.0.now a.1.1.0) its.interrupt.Reads.Post
interrupt s κs a h x y p q = ap lent_1_3_4 (does (p s h) (q s h))

pub reset : (s : State) → UniqueWhere its.reset.Kinds.ps its.reset.Kinds.r
    (λ κs a. Stands execution s a.0.now a.1.0) its.reset.Reads.Post
reset s κs a h x y p q = ap lent_0_3 (does (p s h) (q s h))
