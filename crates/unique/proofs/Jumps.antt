-- The same of JSR and JMP (a).
use Rattle.rules.specs.declared.State.{State}
use Rattle.rules.specs.Cycles.{execution}
use Rattle.wiring.specs.Wiring.{Stands}
use Rattle.jumps.proofs as its
use Rattle.unique.proofs.General.{UniqueWhere}
use Rattle.unique.proofs.Relations.{does}

pub jsr : (s : State) → UniqueWhere its.jsr.Kinds.ps its.jsr.Kinds.r
    (λ κs a. Stands execution s a.1.1.0.now a.1.1.1.0) its.jsr.Reads.Post
jsr s κs a h x y p q j = let e = does (p s h) (q s h) j in (tt, (tt, (tt, (e.state, (tt, (e.image, (e.accesses, tt)))))))

pub jump_indirect : (s : State) → UniqueWhere its.jump_indirect.Kinds.ps its.jump_indirect.Kinds.r
    (λ κs a. Stands execution s a.1.0.now a.1.1.0) its.jump_indirect.Reads.Post
jump_indirect s κs a h x y p q j = let e = does (p s h) (q s h) j in (tt, (tt, (e.state, (tt, (tt, (e.accesses, tt))))))
