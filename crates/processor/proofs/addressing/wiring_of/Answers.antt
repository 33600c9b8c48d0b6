use Rattle.processor.proofs.Banks.{in_bank}
use Rattle.processor.proofs.addressing.wiring_of.Goals as goal

pub returns-in-IndirectBankY-clause-stands : goal.returns-in-IndirectBankY-clause-stands
returns-in-IndirectBankY-clause-stands c = λ s h. rw c.in-IndirectBankY.is (c.indirect.ensures.stands s h)

pub returns-clause-stands : goal.returns-clause-stands
returns-clause-stands c = λ s h. rw (in_bank _ c.in_default.not-IndirectBankY) h
