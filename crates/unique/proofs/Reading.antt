-- Where the sixteen bytes stand for a state, each function of reads has one answer and leaves one list of accesses.
use mathlib.Core.Path.{refl}
use Rattle.rules.specs.declared.State.{State}
use Rattle.rules.specs.Cycles.{Bank, execution}
use Rattle.wiring.specs.Wiring.{Stands}
use Rattle.reads.proofs as its
use Rattle.unique.proofs.General.{UniqueWhere, answer}
use Rattle.unique.proofs.Relations.{goes}

pub look : (s : State) (κ : Bank) →
    UniqueWhere its.look.Kinds.ps its.look.Kinds.r (λ κs a. Stands κ s a.0.now a.1.0) its.look.Reads.Post
look s κ κs a h x y p q = answer refl (p s κ h) (q s κ h)

pub read : (s : State) (κ : Bank) →
    UniqueWhere its.read.Kinds.ps its.read.Kinds.r (λ κs a. Stands κ s a.1.0.now a.1.1.0) its.read.Reads.Post
read s κ κs a h x y p q j = let e = goes (p s κ h) (q s κ h) j in (e.value, (tt, (tt, (tt, (tt, (e.list, (tt, (tt, tt))))))))

pub word_at : (s : State) → UniqueWhere its.word_at.Kinds.ps its.word_at.Kinds.r
    (λ κs a. Stands execution s a.1.0.now a.1.1.0) its.word_at.Reads.Post
word_at s κs a h x y p q j = let e = goes (p s h) (q s h) j in (e.value, (tt, (tt, (tt, (tt, (e.list, (tt, (tt, (tt, tt)))))))))
