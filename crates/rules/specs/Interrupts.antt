-- IRQ, NMI and RES, and which of them a step takes.
use Rattle.std.specs.Prelude.{ℕ, Bool, not, ◌&&◌}
use Rattle.rules.specs.declared.Cpu.{Cpu}
use Rattle.rules.specs.declared.Event.{Event}
use Rattle.rules.specs.declared.Event.TheVariants.{Res, Nmi, Irq, Execute}
use Rattle.rules.specs.declared.Purpose.TheVariants.{Wasted, Stack}
use Rattle.rules.specs.Basics.{when◌then◌else◌, bit_of}
use Rattle.rules.specs.Cycles.{Cycles, ◌>>◌}
use Rattle.rules.specs.Flags.{byte_of}
use Rattle.rules.specs.Addressing.{get, put}
use Rattle.rules.specs.Operations.{stack, down, push_pc, enter, instruction}

-- "lines (bit 0 RES, 1 NMI, 2 IRQ, 1 meaning asserted)"
abbrev pub res_of : ℕ → Bool
res_of lines = bit_of 1 lines

abbrev pub nmi_of : ℕ → Bool
nmi_of lines = bit_of 2 lines

abbrev pub irq_of : ℕ → Bool
irq_of lines = bit_of 4 lines

-- "First that applies: RES; NMI asserted with last level 0; IRQ with I = 0; else the instruction at PC." last is the last NMI level.
unfoldable pub event_of : ℕ → Bool → Cpu → Event
event_of lines last c =
    when res_of lines then Res else when nmi_of lines && not last then Nmi else when irq_of lines && not c.p.i then Irq else Execute

-- "IRQ, NMI: read PC twice, push PC high, low, P (bit 4 clear), read the vector (FFFE, FFFA), set I."
unfoldable pub interrupt : ℕ → Cpu → Cycles Cpu
interrupt vector c = do
  get Wasted c.pc
  get Wasted c.pc
  push_pc c.pc c.s
  put Stack (stack (down 2 c.s)) (byte_of c.p)
  enter vector c

-- "RES: the same with three stack reads in place of pushes, S lowered by 3, vector FFFC, I set, D kept"
unfoldable pub reset : Cpu → Cycles Cpu
reset c = do
  get Wasted c.pc
  get Wasted c.pc
  get Stack (stack c.s)
  get Stack (stack (down 1 c.s))
  get Stack (stack (down 2 c.s))
  enter 0xFFFC c

-- a step's accesses
unfoldable pub cycles_of : Event → Cpu → Cycles Cpu
cycles_of Res c = reset c
cycles_of Nmi c = interrupt 0xFFFA c
cycles_of Irq c = interrupt 0xFFFE c
cycles_of Execute c = instruction c
