-- What is left of an instruction once its opcode and the byte after it were fetched: perhaps the high byte of its address, and its own
-- accesses.
use Rattle.std.specs.Prelude.{◌≡◌, ℕ, List, ◌==◌}
use Rattle.rules.specs.declared.Mode.{Mode}
use Rattle.rules.specs.declared.Mode.TheVariants.{Immediate, Zero, ZeroX, ZeroY, Absolute, AbsoluteX, AbsoluteY, IndirectX, IndirectY}
use Rattle.rules.specs.declared.Mode.TheVariants.{IndirectBankY}
use Rattle.rules.specs.declared.Instruction.{Instruction}
use Rattle.rules.specs.declared.Instruction.TheVariants.{Read, Store, Change, Accumulator, Implied, AtStack, Branch, Jump, JumpIndirect}
use Rattle.rules.specs.declared.Instruction.TheVariants.{Jsr, Brk, Txs, Cli, Undefined}
use Rattle.rules.specs.declared.Cpu.{Cpu}
use Rattle.rules.specs.declared.Purpose.TheVariants.{Operand, Data}
use Rattle.rules.specs.declared.State.{State}
use Rattle.rules.specs.Basics.{when◌then◌else◌, sum16}
use Rattle.rules.specs.Cycles.{Bank, execution, Cycles, done, ◌>>=◌, ◌>>◌}
use Rattle.rules.specs.Bus.{world, images, look}
use Rattle.rules.specs.Record.{record_of}
use Rattle.rules.specs.Addressing.{get, pointer, zero_indexed, indexed, load_indexed}
use Rattle.rules.specs.Operations.{with_pc, perform}
use Rattle.laws.specs.Goes.{Goes, Does}
use Rattle.laws.specs.States.{moved}
use Rattle.wiring.specs.declared.bank.Wiring.{Wiring}
use Rattle.wiring.specs.Wiring.{Stands}
use Rattle.laws.specs.Sizes.{size_in}

-- the high byte of a mode's address, or v where it has none
abbrev pub high_in : Mode → ℕ → ℕ
high_in (Immediate z) v = v
high_in (Zero z) v = v
high_in (ZeroX z) v = v
high_in (ZeroY z) v = v
high_in (Absolute low high) v = high
high_in (AbsoluteX low high) v = high
high_in (AbsoluteY low high) v = high
high_in (IndirectX z) v = v
high_in (IndirectY z) v = v
high_in (IndirectBankY z) v = v

abbrev pub high_of : Instruction → ℕ → ℕ
high_of (Read o m) v = high_in m v
high_of (Store o m) v = high_in m v
high_of (Change o m) v = high_in m v
high_of (Accumulator o) v = v
high_of (Implied o) v = v
high_of (AtStack o) v = v
high_of (Branch t o) v = v
high_of (Jump low high) v = high
high_of (JumpIndirect low high) v = high
high_of (Jsr low) v = v
high_of Brk v = v
high_of Txs v = v
high_of Cli v = v
high_of Undefined v = v

-- PC behind n bytes
abbrev pub past : ℕ → Cpu → Cpu
past n c = with_pc (sum16 c.pc n) c

abbrev pub past_in : ℕ → State → State
past_in n s = moved (past n s.cpu) s.bus s

-- a tree behind the third of n bytes, if there is one
abbrev pub behind : {A : Type 0} → ℕ → ℕ → Cycles A → Cycles A
behind n pc t = when n == 3 then get Operand (sum16 pc 2) >> t else t

-- accesses that have been listed once n bytes are fetched: PC+1 is read by all
abbrev pub begun_by : ℕ → ℕ
begun_by n = when n == 3 then 3 else 2

unfoldable pub rest : Instruction → Cpu → Cycles Cpu
rest i c = behind (size_in 2 i) c.pc (perform i (past (size_in 2 i) c))

-- an instruction of one byte that makes no access of its own leaves the bytes r' of r
abbrev pub Alone : Instruction → List ℕ → ℕ → List ℕ → Type 0
Alone j r pc r' = (s : State) (i l : List ℕ) → r ≡ record_of s → pc ≡ s.cpu.pc → Does (rest j s.cpu) 2 s i l 2 r' i l

-- the third byte at PC
abbrev pub third_at : State → List ℕ → ℕ
third_at s i = look images (world s.bus i) execution (sum16 s.cpu.pc 2)

-- the bytes r stand for s, whose PC is at an instruction; what f says of the third byte is so
pub record Fetched (f : ℕ → ℕ) (s : State) (r i : List ℕ) (w : Wiring) (pc : ℕ) : Type 0 where
  pub stands : Stands execution s r w
  pub here : pc ≡ s.cpu.pc
  pub told : f (third_at s i) ≡ third_at s i

-- n bytes are fetched and PC is behind them
pub record Opens (n : ℕ) (s : State) (i l r' l' : List ℕ) : Type 0 where
  pub bytes : r' ≡ record_of (past_in n s)
  pub goes : Goes {A = Unit {0}} (behind n s.cpu.pc (done tt)) 2 s.bus i l tt (begun_by n) s.bus i l'

-- n bytes are fetched, PC is behind them, and the accesses t have found v; the step has then made k
pub record Reaches (n : ℕ) (t : Cycles ℕ) (s : State) (i l : List ℕ) (v k : ℕ) (r' l' : List ℕ) : Type 0 where
  pub bytes : r' ≡ record_of (past_in n s)
  pub goes : Goes (behind n s.cpu.pc t) 2 s.bus i l v k s.bus i l'

-- a load by z,X or z,Y, i being the register's value
abbrev pub load_zero_indexed : ℕ → ℕ → Cycles ℕ
load_zero_indexed z i = zero_indexed z i >>= get Data

-- a load, and the place of a store, by (z),Y: through a pointer, in a bank
abbrev pub load_through : Bank → ℕ → ℕ → Cycles ℕ
load_through κ z i = pointer z >>= λ a. load_indexed κ a i

abbrev pub place_through : Bank → ℕ → ℕ → Cycles ℕ
place_through κ z i = pointer z >>= λ a. indexed κ a i
