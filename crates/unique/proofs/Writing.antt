-- Where the sixteen bytes stand for a state, each function of writes leaves one list of accesses, one image and one record.
use Rattle.rules.specs.declared.State.{State}
use Rattle.rules.specs.Cycles.{Bank, execution}
use Rattle.wiring.specs.Wiring.{Stands}
use Rattle.writes.proofs as its
use Rattle.unique.proofs.General.{UniqueWhere}
use Rattle.unique.proofs.Relations.{goes, writes}

pub write : (s : State) (κ : Bank) →
    UniqueWhere its.write.Kinds.ps its.write.Kinds.r (λ κs a. Stands κ s a.1.0.now a.1.1.0) its.write.Reads.Post
write s κ κs a h x y p q j = let e =
    writes (p s κ h) (q s κ h) j in (tt, (tt, (e.state, (tt, (e.image, (e.accesses, (tt, (tt, (tt, tt)))))))))

pub push : (s : State) (κ : Bank) →
    UniqueWhere its.push.Kinds.ps its.push.Kinds.r (λ κs a. Stands κ s a.0.now a.1.0) its.push.Reads.Post
push s κ κs a h x y p q j = let e = goes (p s κ h) (q s κ h) j in (tt, (tt, (tt, (e.image, (e.list, (tt, (tt, (tt, tt))))))))

pub push_pc : (s : State) →
    UniqueWhere its.push_pc.Kinds.ps its.push_pc.Kinds.r (λ κs a. Stands execution s a.0.now a.1.0) its.push_pc.Reads.Post
push_pc s κs a h x y p q j = let e = goes (p s h) (q s h) j in (tt, (tt, (tt, (e.image, (e.list, (tt, (tt, (tt, tt))))))))
