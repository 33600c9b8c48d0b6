-- The same of BRK, and of what the interrupts have in common with it.
use Rattle.rules.specs.declared.State.{State}
use Rattle.rules.specs.Cycles.{execution}
use Rattle.wiring.specs.Wiring.{Stands}
use Rattle.sequence.proofs as its
use Rattle.unique.proofs.General.{UniqueWhere}
use Rattle.unique.proofs.Relations.{goes, does}

pub push_three : (s : State) →
    UniqueWhere its.push_three.Kinds.ps its.push_three.Kinds.r
    (λ κs a. Stands execution s a.0.now a.1.0) its.push_three.Reads.Post
push_three s κs a h x y p q j = let e = goes (p s h) (q s h) j in (tt, (tt, (tt, (e.image, (e.list, (tt, (tt, (tt, tt))))))))

pub enter : (s : State) → UniqueWhere its.enter.Kinds.ps its.enter.Kinds.r
    (λ κs a. Stands execution s a.1.0.now a.1.1.0) its.enter.Reads.Post
enter s κs a h x y p q j = let e = does (p s h) (q s h) j in (tt, (tt, (e.state, (tt, (tt, (e.accesses, tt))))))

pub brk : (s : State) → UniqueWhere its.brk.Kinds.ps its.brk.Kinds.r
    (λ κs a. Stands execution s a.1.0.now a.1.1.0) its.brk.Reads.Post
brk s κs a h x y p q j = let e = does (p s h) (q s h) j in (tt, (tt, (e.state, (tt, (e.image, (e.accesses, tt))))))
