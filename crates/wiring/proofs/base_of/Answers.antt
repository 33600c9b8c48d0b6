use Rattle.wiring.proofs.Banks.{base_is, base_fits}
use Rattle.wiring.proofs.base_of.Goals as goal

pub returns : goal.returns
returns c = let start = c.args in (base_fits start.bank start.size c.requires.0 c.requires.1, base_is start.bank start.size)
