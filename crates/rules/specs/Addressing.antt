-- The accesses of each addressing mode, after the opcode and the operand were fetched.
use Rattle.std.specs.Prelude.{ℕ, ◌+◌, ◌*◌, ◌/◌, ◌%◌, Bool, not, eqb}
use Rattle.rules.specs.declared.Cpu.{Cpu}
use Rattle.rules.specs.declared.Mode.{Mode}
use Rattle.rules.specs.declared.Mode.TheVariants.{Immediate, Zero, ZeroX, ZeroY, Absolute, AbsoluteX, AbsoluteY, IndirectX}
use Rattle.rules.specs.declared.Mode.TheVariants.{IndirectY, IndirectBankY}
use Rattle.rules.specs.declared.Purpose.{Purpose}
use Rattle.rules.specs.declared.Purpose.TheVariants.{Wasted, Pointer, Data}
use Rattle.rules.specs.Basics.{when◌then◌else◌, address, sum8, sum16}
use Rattle.rules.specs.Cycles.{Bank, execution, indirect, Cycles, done, read, write, ◌>>=◌, ◌>>◌}

-- one read, and one write, in the execution bank, and what it is for
abbrev pub get : Purpose → ℕ → Cycles ℕ
get why p = read why execution p done

abbrev pub put : Purpose → ℕ → ℕ → Cycles (Unit {0})
put why p v = write why execution p v (done tt)

-- "the old page with the summed low byte"
abbrev pub old_page : ℕ → ℕ → ℕ
old_page a i = a / 256 * 256 + (a + i) % 256

-- an address that is read from two places, its low byte first
abbrev pub word_at : Purpose → ℕ → ℕ → Cycles ℕ
word_at why one two = do
  low ← get why one
  high ← get why two
  done (address low high)

-- "pointer low, high (both in page zero)"
unfoldable pub pointer : ℕ → Cycles ℕ
pointer z = word_at Pointer z (sum8 z 1)

-- z,X and z,Y: "read the unindexed zero-page address"; then the data's address, of (z,X) the pointer's
unfoldable pub zero_indexed : ℕ → ℕ → Cycles ℕ
zero_indexed z i = get Wasted z >> done (sum8 z i)

-- a,X and a,Y: "read at the old page with the summed low byte; then the data at the full sum"
unfoldable pub indexed : Bank → ℕ → ℕ → Cycles ℕ
indexed b a i = read Wasted b (old_page a i) (λ v. done (sum16 a i))

abbrev pub crosses : ℕ → ℕ → Bool
crosses a i = not (eqb (sum16 a i / 256) (a / 256))

-- what a load's first read is for: its data, unless a page was crossed
abbrev pub first_for : ℕ → ℕ → Purpose
first_for a i = when crosses a i then Wasted else Data

-- "A load stops at that first read if no page was crossed"
unfoldable pub load_indexed : Bank → ℕ → ℕ → Cycles ℕ
load_indexed b a i = read (first_for a i) b (old_page a i) (λ v. when crosses a i then read Data b (sum16 a i) done else done v)

-- the byte that a load finds
unfoldable pub load : Cpu → Mode → Cycles ℕ
load c (Immediate v) = done v
load c (Zero z) = get Data z
load c (ZeroX z) = zero_indexed z c.x >>= get Data
load c (ZeroY z) = zero_indexed z c.y >>= get Data
load c (Absolute low high) = get Data (address low high)
load c (AbsoluteX low high) = load_indexed execution (address low high) c.x
load c (AbsoluteY low high) = load_indexed execution (address low high) c.y
load c (IndirectX z) = zero_indexed z c.x >>= λ p. pointer p >>= get Data
load c (IndirectY z) = pointer z >>= λ a. load_indexed execution a c.y
load c (IndirectBankY z) = pointer z >>= λ a. load_indexed indirect a c.y

-- the address where a store or a shift/INC/DEC finds its data; none of them is immediate
unfoldable pub place : Cpu → Mode → Cycles ℕ
place c (Immediate v) = done v
place c (Zero z) = done z
place c (ZeroX z) = zero_indexed z c.x
place c (ZeroY z) = zero_indexed z c.y
place c (Absolute low high) = done (address low high)
place c (AbsoluteX low high) = indexed execution (address low high) c.x
place c (AbsoluteY low high) = indexed execution (address low high) c.y
place c (IndirectX z) = zero_indexed z c.x >>= pointer
place c (IndirectY z) = pointer z >>= λ a. indexed execution a c.y
place c (IndirectBankY z) = pointer z >>= λ a. indexed indirect a c.y

-- and the bank of that data
abbrev pub bank_of : Mode → Bank
bank_of (Immediate v) = execution
bank_of (Zero z) = execution
bank_of (ZeroX z) = execution
bank_of (ZeroY z) = execution
bank_of (Absolute low high) = execution
bank_of (AbsoluteX low high) = execution
bank_of (AbsoluteY low high) = execution
bank_of (IndirectX z) = execution
bank_of (IndirectY z) = execution
bank_of (IndirectBankY z) = indirect
