-- States made of others: what functions on the record's sixteen bytes are said to leave.
use Rattle.rules.specs.declared.Bus.{Bus}
use Rattle.rules.specs.declared.Cpu.{Cpu}
use Rattle.rules.specs.declared.State.{State}

-- a state with other registers, and another bus
abbrev pub moved : Cpu → Bus → State → State
moved c u s = record { cpu = c; bus = u; nmi = s.nmi; cycles = s.cycles }
