use Rattle.std.proofs.Common.{refl, arith}
use Rattle.step.proofs.Closing.{taken}
use Rattle.rules.specs.Interrupts.{cycles_of}
use Rattle.step.proofs.take.Goals as goal

pub returns-in-Res : goal.returns-in-Res
unfolding cycles_of
returns-in-Res c =
    (omega arith, λ s b. rw c.in-Res.is (taken refl (omega arith) (c.reset.ensures s b)))

pub returns-in-Nmi : goal.returns-in-Nmi
unfolding cycles_of
returns-in-Nmi c =
    (omega arith, λ s b. rw c.in-Nmi.is (taken refl (omega arith) (c.interrupt.ensures s b)))

pub returns-in-Irq : goal.returns-in-Irq
unfolding cycles_of
returns-in-Irq c =
    (omega arith, λ s b. rw c.in-Irq.is (taken refl (omega arith) (c.interrupt-in-Irq.ensures s b)))

pub returns-in-Execute : goal.returns-in-Execute
unfolding cycles_of
returns-in-Execute c =
    (c.execute.ensures.0, λ s b. rw c.in-Execute.is (c.execute.ensures.1 s b))
