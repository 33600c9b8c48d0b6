use Rattle.rules.specs.Record.{record_of}
use Rattle.rules.specs.Bus.{reset_bus}
use Rattle.step.proofs.reset_registers.Goals as goal

pub returns : goal.returns
unfolding record_of reset_bus
returns c = λ s e. rw (c.reset_register-v.ensures, e)
