-- A step's accesses reach the image in one way.
use mathlib.Core.Path.{refl}
use Rattle.rules.specs.declared.State.{State}
use Rattle.rules.specs.Cycles.{execution}
use Rattle.wiring.specs.Wiring.{Stands}
use Rattle.processor.specs.Executed.{Begins}
use Rattle.wiring.proofs as its
use Rattle.unique.proofs.General.{UniqueWhere, answer}
use Rattle.unique.proofs.Relations.{wired}

pub wire : (s : State) → UniqueWhere its.wire.Kinds.ps its.wire.Kinds.r
    (λ κs a. Begins s a.0.now a.1.0 a.1.1.0) its.wire.Reads.Post
wire s κs a h x y p q =
    answer
    refl
    (wired (p.1 s h.bytes h.sound h.banked h.pins h.banks).wired
    (q.1 s h.bytes h.sound h.banked h.pins h.banks).wired)
    refl

pub indirect : (s : State) →
    UniqueWhere its.indirect.Kinds.ps its.indirect.Kinds.r (λ κs a. Stands execution s a.0.now a.1.0) its.indirect.Reads.Post
indirect s κs a h x y p q = answer refl (wired (p.1 s h).wired (q.1 s h).wired) refl
