-- Every step makes at most 7 accesses, and one whose opcode is defined at least 2: 56 bytes suffice.
use Prim.Native.Nat.{ℕ, suc, ◌+◌, ◌/◌, ◌≤◌}
use native.Mathlib.Omega.{arith}
use mathlib.Core.Path.{◌≡◌, refl}
use mathlib.Core.Bool.{Bool, true, false, ◌&&◌, false≢true}
use mathlib.Core.List.{List, [], ◌∷◌}
use borrow.Author.Tests.{leb-true}
use lib.Dec.{eqb, leb}
use lib.ListN.{length}
use Rattle.rules.specs.declared.Cpu.{Cpu}
use Rattle.rules.specs.declared.State.{State}
use Rattle.rules.specs.declared.Mode.{Mode}
use Rattle.rules.specs.declared.Mode.TheVariants.{Immediate, Zero, ZeroX, ZeroY, Absolute, AbsoluteX, AbsoluteY, IndirectX, IndirectY}
use Rattle.rules.specs.declared.Mode.TheVariants.{IndirectBankY}
use Rattle.rules.specs.declared.Stacking.TheVariants.{Php, Plp, Pha, Pla, Rts, Rti}
use Rattle.rules.specs.declared.Instruction.{Instruction}
use Rattle.rules.specs.declared.Instruction.TheVariants.{Read, Store, Change, Accumulator, Implied, AtStack, Branch, Jump, JumpIndirect}
use Rattle.rules.specs.declared.Instruction.TheVariants.{Jsr, Brk, Txs, Cli, Undefined}
use Rattle.rules.specs.Basics.{when◌then◌else◌, address}
use Rattle.rules.specs.Cycles.{Bank, execution, indirect, ◌>>=◌, Device, run}
use Rattle.rules.specs.Opcodes.{Entry, undefined, alone, byte, word, late, Row, rows, among, decode, is_defined}
use Rattle.rules.specs.Addressing.{load, place, pointer, zero_indexed, indexed, crosses, load_indexed}
use Rattle.rules.specs.Operations.{branch_to, enter, push, pull, jsr, rts, rti, brk, jump_indirect, perform, operate, instruction, taken}
use Rattle.rules.specs.Operations.{target, onward}
use Rattle.rules.specs.declared.Event.{Event}
use Rattle.rules.specs.declared.Event.TheVariants.{Res, Nmi, Irq, Execute}
use Rattle.rules.specs.Interrupts.{interrupt, reset, cycles_of}
use Rattle.rules.specs.Bus.{Memory, world, board}
use Rattle.rules.specs.Step.{ran_of, opcode_of, can_step}
use Rattle.laws.proofs.Tests.{and_left, and_right}
use Rattle.laws.proofs.Cycles.{Most, most_le, most_bind, most_if}

-- How many accesses a load makes at most, how many come before a store's or a change's data, and how many an instruction makes after its
-- operand.

abbrev pub load_most : Mode → ℕ
load_most (Immediate v) = 0
load_most (Zero z) = 1
load_most (ZeroX z) = 2
load_most (ZeroY z) = 2
load_most (Absolute low high) = 1
load_most (AbsoluteX low high) = 2
load_most (AbsoluteY low high) = 2
load_most (IndirectX z) = 4
load_most (IndirectY z) = 4
load_most (IndirectBankY z) = 4

abbrev pub place_most : Mode → ℕ
place_most (Immediate v) = 0
place_most (Zero z) = 0
place_most (ZeroX z) = 1
place_most (ZeroY z) = 1
place_most (Absolute low high) = 0
place_most (AbsoluteX low high) = 1
place_most (AbsoluteY low high) = 1
place_most (IndirectX z) = 3
place_most (IndirectY z) = 3
place_most (IndirectBankY z) = 3

abbrev pub instruction_most : Instruction → ℕ
instruction_most (Read o m) = load_most m + 0
instruction_most (Store o m) = place_most m + 1
instruction_most (Change o m) = place_most m + 3
instruction_most (Accumulator o) = 0
instruction_most (Implied o) = 0
instruction_most (AtStack Php) = 1
instruction_most (AtStack Plp) = 2
instruction_most (AtStack Pha) = 1
instruction_most (AtStack Pla) = 2
instruction_most (AtStack Rts) = 4
instruction_most (AtStack Rti) = 4
instruction_most (Branch t o) = 2
instruction_most (Jump low high) = 0
instruction_most (JumpIndirect low high) = 2
instruction_most (Jsr low) = 4
instruction_most Brk = 5
instruction_most Txs = 0
instruction_most Cli = 0
instruction_most Undefined = 0

indexed_most : (b : Bank) (a i : ℕ) → Most 2 (load_indexed b a i)
unfolding load_indexed
indexed_most b a i = λ v. most_if 1 (crosses a i) _ _ (λ w. tt) tt

load_most_lem : (c : Cpu) (m : Mode) → Most (load_most m) (load c m)
unfolding load zero_indexed pointer ◌>>=◌
load_most_lem c (Immediate v) = tt
load_most_lem c (Zero z) = λ v. tt
load_most_lem c (ZeroX z) = λ u v. tt
load_most_lem c (ZeroY z) = λ u v. tt
load_most_lem c (Absolute low high) = λ v. tt
load_most_lem c (AbsoluteX low high) = indexed_most execution (address low high) c.x
load_most_lem c (AbsoluteY low high) = indexed_most execution (address low high) c.y
load_most_lem c (IndirectX z) = λ t u v w. tt
load_most_lem c (IndirectY z) = λ low high. indexed_most execution (address low high) c.y
load_most_lem c (IndirectBankY z) = λ low high. indexed_most indirect (address low high) c.y

place_most_lem : (c : Cpu) (m : Mode) → Most (place_most m) (place c m)
unfolding place zero_indexed pointer indexed ◌>>=◌
place_most_lem c (Immediate v) = tt
place_most_lem c (Zero z) = tt
place_most_lem c (ZeroX z) = λ u. tt
place_most_lem c (ZeroY z) = λ u. tt
place_most_lem c (Absolute low high) = tt
place_most_lem c (AbsoluteX low high) = λ u. tt
place_most_lem c (AbsoluteY low high) = λ u. tt
place_most_lem c (IndirectX z) = λ t u v. tt
place_most_lem c (IndirectY z) = λ low high v. tt
place_most_lem c (IndirectBankY z) = λ low high v. tt

branch_most : (to : ℕ) (c : Cpu) → Most 2 (branch_to to c)
unfolding branch_to ◌>>=◌
branch_most to c = λ v. most_if 1 (eqb (to / 256) (c.pc / 256)) _ _ tt (λ w. tt)

perform_most : (i : Instruction) (c : Cpu) → Most (instruction_most i) (perform i c)
unfolding perform jump_indirect jsr rts rti brk enter push pull ◌>>=◌
perform_most (Read o m) c = most_bind (load_most m) 0 (load c m) _ (load_most_lem c m) (λ v. tt)
perform_most (Store o m) c = most_bind (place_most m) 1 (place c m) _ (place_most_lem c m) (λ p. tt)
perform_most (Change o m) c = most_bind (place_most m) 3 (place c m) _ (place_most_lem c m) (λ p v. tt)
perform_most (Accumulator o) c = tt
perform_most (Implied o) c = tt
perform_most (AtStack Php) c = tt
perform_most (AtStack Plp) c = λ v p. tt
perform_most (AtStack Pha) c = tt
perform_most (AtStack Pla) c = λ v p. tt
perform_most (AtStack Rts) c = λ v low high w. tt
perform_most (AtStack Rti) c = λ v p low high. tt
perform_most (Branch t o) c = most_if 2 (taken t c.p) _ _ (branch_most (target c.pc o) c) tt
perform_most (Jump low high) c = tt
perform_most (JumpIndirect low high) c = λ v w. tt
perform_most (Jsr low) c = λ v high. tt
perform_most Brk c = λ low high. tt
perform_most Txs c = tt
perform_most Cli c = tt
perform_most Undefined c = tt

-- The same of an entry, whose operand is low and high: the operand's accesses come first.

abbrev pub entry_most : Entry → ℕ → ℕ → ℕ
entry_most undefined low high = 0
entry_most (alone i) low high = 1 + instruction_most i
entry_most (byte f) low high = 1 + instruction_most (f low)
entry_most (word f) low high = 2 + instruction_most (f low high)
entry_most (late f) low high = 1 + instruction_most (f low)

operate_most : (n : ℕ) (e : Entry) (c : Cpu) → ((low high : ℕ) → entry_most e low high ≤ suc (suc n)) → Most (suc (suc n)) (operate e c)
unfolding operate ◌>>=◌
operate_most n undefined c h = tt
operate_most n (alone i) c h = λ v. most_le (instruction_most i) (suc n) (omega (arith, h 0 0)) (perform i c) (perform_most i c)
operate_most n (byte f) c h = λ v.
    let i = f v in most_le (instruction_most i) (suc n) (omega (arith, h v 0)) (perform i (onward c)) (perform_most i (onward c))
operate_most n (word f) c h = λ low high.
    let i = f low high in
    most_le (instruction_most i) n (omega (arith, h low high)) (perform i (onward (onward c))) (perform_most i (onward (onward c)))
operate_most n (late f) c h = λ v.
    let i = f v in most_le (instruction_most i) (suc n) (omega (arith, h v 0)) (perform i (onward c)) (perform_most i (onward c))

-- the test of all rows, whatever the operand
abbrev short : List Row → ℕ → ℕ → Bool
short [] low high = true
short (r ∷ rs) low high = leb (entry_most r.entry low high) 6 && short rs low high

rows_short : (low high : ℕ) → short rows low high ≡ true
rows_short low high = refl

among_short : (l : List Row) (n low high : ℕ) → short l low high ≡ true → entry_most (among l n) low high ≤ 6
among_short [] n low high h = omega arith
among_short (r ∷ l) n low high h =
    go (eqb n r.opcode) (among_short l n low high (and_right (leb (entry_most r.entry low high) 6) (short l low high) h))
  where
    go : (b : Bool) → entry_most (among l n) low high ≤ 6 → entry_most (when b then r.entry else among l n) low high ≤ 6
    go true q = leb-true (entry_most r.entry low high) 6 (and_left (leb (entry_most r.entry low high) 6) (short l low high) h)
    go false q = q

pub decode_short : (n low high : ℕ) → entry_most (decode n) low high ≤ 6
unfolding decode
decode_short n low high = among_short rows n low high (rows_short low high)

pub at_most_seven : (e : Event) (c : Cpu) → Most 7 (cycles_of e c)
unfolding cycles_of instruction reset interrupt enter ◌>>=◌
at_most_seven Res c = λ a b d e f low high. tt
at_most_seven Nmi c = λ a b low high. tt
at_most_seven Irq c = λ a b low high. tt
at_most_seven Execute c = λ op. operate_most 4 (decode op) (onward c) (decode_short op)

operate_one : {W : Type 0} (d : Device W) (e : Entry) (c : Cpu) (w : W) → is_defined e ≡ true → 1 ≤ length (run d (operate e c) w).list
unfolding operate run ◌>>=◌
operate_one d undefined c w h = absurd (false≢true h)
operate_one d (alone i) c w h = omega arith
operate_one d (byte f) c w h = omega arith
operate_one d (word f) c w h = omega arith
operate_one d (late f) c w h = omega arith

pub two_least : {M : Type 0} (memory : Memory M) (e : Event) (u : State) (m : M) → can_step memory e u m ≡ true →
    2 ≤ length (ran_of memory e u m).list
unfolding cycles_of instruction reset interrupt enter run ◌>>=◌
two_least memory Res u m h = omega arith
two_least memory Nmi u m h = omega arith
two_least memory Irq u m h = omega arith
two_least memory Execute u m h =
    omega (arith, operate_one (board memory) (decode (opcode_of memory u m)) (onward u.cpu) (world u.bus m) h)
