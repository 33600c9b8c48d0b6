-- What each instruction does: its accesses after the operand, and the registers it leaves. PC has moved past all that was fetched.
use Rattle.std.specs.Prelude.{ℕ, ◌+◌, ◌-◌, ◌*◌, ◌/◌, ◌%◌, Bool, true, false, not, eqb}
use Rattle.std.specs.Int.Bits.{bit_and, bit_or, bit_xor}
use Rattle.rules.specs.declared.Flags.{Flags}
use Rattle.rules.specs.declared.Flagged.{Flagged}
use Rattle.rules.specs.declared.Cpu.{Cpu}
use Rattle.rules.specs.declared.Reading.{Reading}
use Rattle.rules.specs.declared.Reading.TheVariants.{Ora, And, Eor, Adc, Lda, Cmp, Sbc, Ldx, Ldy, Cpx, Cpy, Bit}
use Rattle.rules.specs.declared.Storing.{Storing}
use Rattle.rules.specs.declared.Storing.TheVariants.{Sta, Stx, Sty}
use Rattle.rules.specs.declared.Condition.{Condition}
use Rattle.rules.specs.declared.Condition.TheVariants.{Bpl, Bmi, Bvc, Bvs, Bcc, Bcs, Bne, Beq}
use Rattle.rules.specs.declared.Internal.{Internal}
use Rattle.rules.specs.declared.Internal.TheVariants.{Clc, Sec, Sei, Clv, Cld, Sed, Tax, Txa, Tay, Tya, Tsx, Inx, Iny, Dex, Dey, Nop}
use Rattle.rules.specs.declared.Stacking.{Stacking}
use Rattle.rules.specs.declared.Stacking.TheVariants.{Php, Plp, Pha, Pla, Rts, Rti}
use Rattle.rules.specs.declared.Instruction.{Instruction}
use Rattle.rules.specs.declared.Instruction.TheVariants.{Read, Store, Change, Accumulator, Implied, AtStack, Branch, Jump}
use Rattle.rules.specs.declared.Instruction.TheVariants.{JumpIndirect, Jsr, Brk, Txs, Cli, Undefined}
use Rattle.rules.specs.declared.Purpose.TheVariants.{Opcode, Operand, Wasted, Pointer, Data, Stack, Vector}
use Rattle.rules.specs.Basics.{when◌then◌else◌, address, sum8, sum16}
use Rattle.rules.specs.Cycles.{Cycles, done, write, ◌>>=◌, ◌>>◌}
use Rattle.rules.specs.Flags.{byte_of4, flags_of, nz, with_v, with_d, with_i, with_c}
use Rattle.rules.specs.Arithmetic.{signed, adc, sbc, compare, bit_test, changed}
use Rattle.rules.specs.Opcodes.{Entry, undefined, alone, byte, word, late, decode}
use Rattle.rules.specs.Addressing.{get, put, old_page, word_at, load, place, bank_of}

-- The registers, one changed.

abbrev pub with_p : Flags → Cpu → Cpu
with_p f c = record { a = c.a; x = c.x; y = c.y; s = c.s; p = f; pc = c.pc }

abbrev pub with_s : ℕ → Cpu → Cpu
with_s s c = record { a = c.a; x = c.x; y = c.y; s = s; p = c.p; pc = c.pc }

abbrev pub with_pc : ℕ → Cpu → Cpu
with_pc pc c = record { a = c.a; x = c.x; y = c.y; s = c.s; p = c.p; pc = pc }

abbrev pub with_result : Flagged → Cpu → Cpu
with_result r c = record { a = r.value; x = c.x; y = c.y; s = c.s; p = r.flags; pc = c.pc }

-- "loads, pulls of A, transfers except TXS, logic and steps by one set N, Z"
abbrev pub to_a : ℕ → Cpu → Cpu
to_a v c = record { a = v; x = c.x; y = c.y; s = c.s; p = nz v c.p; pc = c.pc }

abbrev pub to_x : ℕ → Cpu → Cpu
to_x v c = record { a = c.a; x = v; y = c.y; s = c.s; p = nz v c.p; pc = c.pc }

abbrev pub to_y : ℕ → Cpu → Cpu
to_y v c = record { a = c.a; x = c.x; y = v; s = c.s; p = nz v c.p; pc = c.pc }

-- what is done with a byte v that was read
unfoldable pub used : Reading → ℕ → Cpu → Cpu
used Ora v c = to_a (bit_or c.a v) c
used And v c = to_a (bit_and c.a v) c
used Eor v c = to_a (bit_xor c.a v) c
used Adc v c = with_result (adc c.a v c.p) c
used Lda v c = to_a v c
used Cmp v c = with_p (compare c.a v c.p) c
used Sbc v c = with_result (sbc c.a v c.p) c
used Ldx v c = to_x v c
used Ldy v c = to_y v c
used Cpx v c = with_p (compare c.x v c.p) c
used Cpy v c = with_p (compare c.y v c.p) c
used Bit v c = with_p (bit_test c.a v c.p) c

abbrev pub register_of : Storing → Cpu → ℕ
register_of Sta c = c.a
register_of Stx c = c.x
register_of Sty c = c.y

unfoldable pub inside : Internal → Cpu → Cpu
inside Clc c = with_p (with_c false c.p) c
inside Sec c = with_p (with_c true c.p) c
inside Sei c = with_p (with_i true c.p) c
inside Clv c = with_p (with_v false c.p) c
inside Cld c = with_p (with_d false c.p) c
inside Sed c = with_p (with_d true c.p) c
inside Tax c = to_x c.a c
inside Txa c = to_a c.x c
inside Tay c = to_y c.a c
inside Tya c = to_a c.y c
inside Tsx c = to_x c.s c
inside Inx c = to_x (sum8 c.x 1) c
inside Iny c = to_y (sum8 c.y 1) c
inside Dex c = to_x (sum8 c.x 255) c
inside Dey c = to_y (sum8 c.y 255) c
inside Nop c = c

unfoldable pub taken : Condition → Flags → Bool
taken Bpl f = not f.n
taken Bmi f = f.n
taken Bvc f = not f.v
taken Bvs f = f.v
taken Bcc f = not f.c
taken Bcs f = f.c
taken Bne f = not f.z
taken Beq f = f.z

-- the next instruction's address plus the offset, a signed byte; 65408 takes back the 128 that `signed` adds, modulo 65536
abbrev pub target : ℕ → ℕ → ℕ
target next o = (next + signed o + 65408) % 65536

-- "read the next instruction's address; if the target's page differs from that one, read the next instruction's page with the
-- target's low byte"
unfoldable pub branch_to : ℕ → Cpu → Cycles Cpu
branch_to to c =
    get Wasted c.pc >>
    (when eqb (to / 256) (c.pc / 256) then done (with_pc to c) else get Wasted (c.pc / 256 * 256 + to % 256) >> done (with_pc to c))

-- the stack's byte at S, and S lowered by k
abbrev pub stack : ℕ → ℕ
stack s = 256 + s

abbrev pub down : ℕ → ℕ → ℕ
down k s = (s + 256 - k) % 256

-- "push PC high, low"
abbrev pub push_pc : ℕ → ℕ → Cycles (Unit {0})
push_pc pc s = put Stack (stack s) (pc / 256) >> put Stack (stack (down 1 s)) (pc % 256)

-- how BRK, an interrupt and a reset end: S is lower by 3, "read the vector", "set I"
unfoldable pub enter : ℕ → Cpu → Cycles Cpu
enter vector c = do
  to ← word_at Vector vector (vector + 1)
  done (with_pc to (with_p (with_i true c.p) (with_s (down 3 c.s) c)))

-- "Push: PC+1, write at S."
unfoldable pub push : ℕ → Cpu → Cycles Cpu
push v c = put Stack (stack c.s) v >> done (with_s (down 1 c.s) c)

-- "Pull: PC+1, read at S, read at S+1."
unfoldable pub pull : (ℕ → Cpu → Cpu) → Cpu → Cycles Cpu
pull f c = do
  get Wasted (stack c.s)
  v ← get Stack (stack (sum8 c.s 1))
  done (f v (with_s (sum8 c.s 1) c))

-- "JSR: low, read at S, push PC+2 high, low, then high operand." PC now stands at PC+2.
unfoldable pub jsr : ℕ → Cpu → Cycles Cpu
jsr low c = do
  get Wasted (stack c.s)
  push_pc c.pc c.s
  high ← get Operand c.pc
  done (with_pc (address low high) (with_s (down 2 c.s) c))

-- "RTS: PC+1, read at S, pull low, high, read there; PC is one more."
unfoldable pub rts : Cpu → Cycles Cpu
rts c = do
  get Wasted (stack c.s)
  low ← get Stack (stack (sum8 c.s 1))
  high ← get Stack (stack (sum8 c.s 2))
  get Wasted (address low high)
  done (with_pc (sum16 (address low high) 1) (with_s (sum8 c.s 2) c))

-- "RTI: PC+1, read at S, pull P, low, high."
unfoldable pub rti : Cpu → Cycles Cpu
rti c = do
  get Wasted (stack c.s)
  p ← get Stack (stack (sum8 c.s 1))
  low ← get Stack (stack (sum8 c.s 2))
  high ← get Stack (stack (sum8 c.s 3))
  done (with_pc (address low high) (with_p (flags_of p) (with_s (sum8 c.s 3) c)))

-- what is done at the stack
abbrev pub at_stack : Stacking → Cpu → Cycles Cpu
at_stack Php c = push (byte_of4 c.p) c
at_stack Plp c = pull (λ v. with_p (flags_of v)) c
at_stack Pha c = push c.a c
at_stack Pla c = pull to_a c
at_stack Rts c = rts c
at_stack Rti c = rti c

-- "BRK: PC+1, push PC+2 high, low, P with bit 4 set, FFFE, FFFF; I set." PC now stands at PC+1.
unfoldable pub brk : Cpu → Cycles Cpu
brk c = do
  push_pc (sum16 c.pc 1) c.s
  put Stack (stack (down 2 c.s)) (byte_of4 c.p)
  enter 0xFFFE c

-- "JMP (a): two operands, pointer"; document 02: "the second pointer byte is read in the same page, low byte wrapped"
unfoldable pub jump_indirect : ℕ → Cpu → Cycles Cpu
jump_indirect a c = word_at Pointer a (old_page a 1) >>= λ to. done (with_pc to c)

unfoldable pub perform : Instruction → Cpu → Cycles Cpu
perform (Read o m) c = load c m >>= λ v. done (used o v c)
perform (Store o m) c = place c m >>= λ p. write Data (bank_of m) p (register_of o c) (done c)
perform (Change o m) c = do
  -- "Shift/INC/DEC: read data, write it back, write the result."
  p ← place c m
  v ← get Data p
  put Wasted p v
  put Data p (changed o v c.p).value
  done (with_p (changed o v c.p).flags c)
perform (Accumulator o) c = done (with_result (changed o c.a c.p) c)
perform (Implied o) c = done (inside o c)
perform (AtStack o) c = at_stack o c
perform (Branch t o) c = when taken t c.p then branch_to (target c.pc o) c else done c
perform (Jump low high) c = done (with_pc (address low high) c)
perform (JumpIndirect low high) c = jump_indirect (address low high) c
perform (Jsr low) c = jsr low c
perform Brk c = brk c
perform Txs c = done (with_s c.x c)
perform Cli c = done (with_p (with_i false c.p) c)
perform Undefined c = done c

-- PC one further
abbrev pub onward : Cpu → Cpu
onward c = with_pc (sum16 c.pc 1) c

-- the operand, or "Implied, A: read PC+1", and the instruction
unfoldable pub operate : Entry → Cpu → Cycles Cpu
operate undefined c = done c
operate (alone i) c = get Wasted c.pc >> perform i c
operate (byte f) c = get Operand c.pc >>= λ v. perform (f v) (onward c)
operate (word f) c = get Operand c.pc >>= λ low. get Operand (onward c).pc >>= λ high. perform (f low high) (onward (onward c))
operate (late f) c = get Operand c.pc >>= λ low. perform (f low) (onward c)

-- the instruction at PC
unfoldable pub instruction : Cpu → Cycles Cpu
instruction c = get Opcode c.pc >>= λ op. operate (decode op) (onward c)
