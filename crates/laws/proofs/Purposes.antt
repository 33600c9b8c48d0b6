-- What the purposes of a step's accesses tell: the first access of an instruction is its only opcode fetch; every write is wasted, data or
-- stack; what is stack lies in page 1; vectors are read, and only at FFFA to FFFF.
use Prim.Native.Nat.{ℕ, ◌+◌, ◌/◌, ◌<◌, ◌≤◌}
use native.Mathlib.Omega.{arith}
use mathlib.Core.Path.{◌≡◌, refl}
use mathlib.Core.Bool.{Bool, true, false, ◌||◌}
use mathlib.Core.List.{List, [], ◌∷◌}
use lib.Dec.{eqb}
use Rattle.rules.specs.declared.Purpose.{Purpose}
use Rattle.rules.specs.declared.Purpose.TheVariants.{Opcode, Operand, Wasted, Pointer, Data, Stack, Vector}
use Rattle.rules.specs.declared.Cpu.{Cpu}
use Rattle.rules.specs.declared.State.{State}
use Rattle.rules.specs.declared.Mode.{Mode}
use Rattle.rules.specs.declared.Mode.TheVariants.{Immediate, Zero, ZeroX, ZeroY, Absolute, AbsoluteX, AbsoluteY, IndirectX, IndirectY}
use Rattle.rules.specs.declared.Mode.TheVariants.{IndirectBankY}
use Rattle.rules.specs.declared.Stacking.TheVariants.{Php, Plp, Pha, Pla, Rts, Rti}
use Rattle.rules.specs.declared.Instruction.{Instruction}
use Rattle.rules.specs.declared.Instruction.TheVariants.{Read, Store, Change, Accumulator, Implied, AtStack, Branch, Jump, JumpIndirect}
use Rattle.rules.specs.declared.Instruction.TheVariants.{Jsr, Brk, Txs, Cli, Undefined}
use Rattle.rules.specs.declared.Event.{Event}
use Rattle.rules.specs.declared.Event.TheVariants.{Res, Nmi, Irq, Execute}
use Rattle.rules.specs.Basics.{when◌then◌else◌, address, sum8}
use Rattle.rules.specs.Cycles.{Bank, execution, indirect, Cycles, done, read, write, ◌>>=◌, Device, Access, run}
use Rattle.rules.specs.Opcodes.{Entry, undefined, alone, byte, word, late, decode}
use Rattle.rules.specs.Addressing.{load, place, pointer, zero_indexed, indexed, old_page, crosses, load_indexed}
use Rattle.rules.specs.Operations.{branch_to, enter, push, pull, jsr, rts, rti, brk, jump_indirect, perform, operate, instruction, taken}
use Rattle.rules.specs.Operations.{target, onward, down}
use Rattle.rules.specs.Interrupts.{interrupt, reset, cycles_of}
use Rattle.rules.specs.Bus.{Memory, world, board, purpose_number}
use Rattle.rules.specs.Step.{ran_of, opcode_of}
use Rattle.laws.proofs.Cycles.{Each}

-- a read (0) or a write (1) at p that may have this purpose, once the opcode was fetched
abbrev pub Fits : Purpose → ℕ → ℕ → Type 0
Fits Opcode kind p = ⊥
Fits Operand kind p = kind ≡ 0
Fits Wasted kind p = Unit {0}
Fits Pointer kind p = kind ≡ 0
Fits Data kind p = Unit {0}
Fits Stack kind p = p / 256 ≡ 1
Fits Vector kind p = (kind ≡ 0) × (0xFFFA ≤ p) × (p ≤ 0xFFFF)

abbrev pub Fitting : Access → Type 0
Fitting a = Fits a.purpose a.kind a.address

-- every write has purpose 3, 5 or 6
pub written : (why : Purpose) (p : ℕ) → Fits why 1 p →
    (eqb (purpose_number why) 3 || eqb (purpose_number why) 5 || eqb (purpose_number why) 6) ≡ true
written Opcode p h = absurd h
written Operand p h = absurd (omega (arith, h))
written Wasted p h = refl
written Pointer p h = absurd (omega (arith, h))
written Data p h = refl
written Stack p h = refl
written Vector p h = absurd (omega (arith, h.0))

-- a tree whose accesses fit
abbrev Purposed : {A : Type 0} → Cycles A → Type 0
Purposed (done a) = Unit {0}
Purposed (read why b p f) = Fits why 0 p × ((v : ℕ) → Purposed (f v))
Purposed (write why b p v t) = Fits why 1 p × Purposed t

purposed_each : {W A : Type 0} (d : Device W) (t : Cycles A) (w : W) → Purposed t → Each Fitting (run d t w).list
unfolding run
purposed_each d (done a) w q = tt
purposed_each d (read why b p f) w q = (q.0, purposed_each d (f (d.look w b p)) w (q.1 (d.look w b p)))
purposed_each d (write why b p v t) w q = (q.0, purposed_each d t (d.stored w b p v) q.1)

purposed_bind : {A B : Type 0} (t : Cycles A) (k : A → Cycles B) → Purposed t → ((a : A) → Purposed (k a)) → Purposed (t >>= k)
unfolding ◌>>=◌
purposed_bind (done a) k q r = r a
purposed_bind (read why b p f) k q r = (q.0, λ v. purposed_bind (f v) k (q.1 v) r)
purposed_bind (write why b p v t) k q r = (q.0, purposed_bind t k q.1 r)

purposed_if : {A : Type 0} (b : Bool) (t u : Cycles A) → Purposed t → Purposed u → Purposed (when b then t else u)
purposed_if true t u p q = p
purposed_if false t u p q = q

-- page 1
here : (s : ℕ) → s < 256 → (256 + s) / 256 ≡ 1
here s h = omega arith

below : (k s : ℕ) → (256 + down k s) / 256 ≡ 1
below k s = omega arith

above : (k s : ℕ) → (256 + sum8 s k) / 256 ≡ 1
above k s = omega arith

indexed_purposed : (b : Bank) (a i : ℕ) → Purposed (load_indexed b a i)
unfolding load_indexed
indexed_purposed b a i = (first (crosses a i), λ v. purposed_if (crosses a i) _ _ (tt, λ w. tt) tt)
  where
    first : (c : Bool) → Fits (when c then Wasted else Data) 0 (old_page a i)
    first true = tt
    first false = tt

load_purposed : (c : Cpu) (m : Mode) → Purposed (load c m)
unfolding load zero_indexed pointer ◌>>=◌
load_purposed c (Immediate v) = tt
load_purposed c (Zero z) = (tt, λ v. tt)
load_purposed c (ZeroX z) = (tt, λ u. (tt, λ v. tt))
load_purposed c (ZeroY z) = (tt, λ u. (tt, λ v. tt))
load_purposed c (Absolute low high) = (tt, λ v. tt)
load_purposed c (AbsoluteX low high) = indexed_purposed execution (address low high) c.x
load_purposed c (AbsoluteY low high) = indexed_purposed execution (address low high) c.y
load_purposed c (IndirectX z) = (tt, λ t. (refl, λ u. (refl, λ v. (tt, λ w. tt))))
load_purposed c (IndirectY z) = (refl, λ low. (refl, λ high. indexed_purposed execution (address low high) c.y))
load_purposed c (IndirectBankY z) = (refl, λ low. (refl, λ high. indexed_purposed indirect (address low high) c.y))

place_purposed : (c : Cpu) (m : Mode) → Purposed (place c m)
unfolding place zero_indexed pointer indexed ◌>>=◌
place_purposed c (Immediate v) = tt
place_purposed c (Zero z) = tt
place_purposed c (ZeroX z) = (tt, λ u. tt)
place_purposed c (ZeroY z) = (tt, λ u. tt)
place_purposed c (Absolute low high) = tt
place_purposed c (AbsoluteX low high) = (tt, λ u. tt)
place_purposed c (AbsoluteY low high) = (tt, λ u. tt)
place_purposed c (IndirectX z) = (tt, λ t. (refl, λ u. (refl, λ v. tt)))
place_purposed c (IndirectY z) = (refl, λ low. (refl, λ high. (tt, λ v. tt)))
place_purposed c (IndirectBankY z) = (refl, λ low. (refl, λ high. (tt, λ v. tt)))

branch_purposed : (to : ℕ) (c : Cpu) → Purposed (branch_to to c)
unfolding branch_to ◌>>=◌
branch_purposed to c = (tt, λ v. purposed_if (eqb (to / 256) (c.pc / 256)) _ _ tt (tt, λ w. tt))

enter_purposed : (vector : ℕ) (c : Cpu) → 0xFFFA ≤ vector → vector < 0xFFFF → Purposed (enter vector c)
unfolding enter ◌>>=◌
enter_purposed vector c p q = ((refl, p, omega arith), λ low. ((refl, omega arith, omega arith), λ high. tt))

perform_purposed : (i : Instruction) (c : Cpu) → c.s < 256 → Purposed (perform i c)
unfolding perform jump_indirect jsr rts rti brk push pull ◌>>=◌
perform_purposed (Read o m) c h = purposed_bind (load c m) _ (load_purposed c m) (λ v. tt)
perform_purposed (Store o m) c h = purposed_bind (place c m) _ (place_purposed c m) (λ p. (tt, tt))
perform_purposed (Change o m) c h = purposed_bind (place c m) _ (place_purposed c m) (λ p. (tt, λ v. (tt, (tt, tt))))
perform_purposed (Accumulator o) c h = tt
perform_purposed (Implied o) c h = tt
perform_purposed (AtStack Php) c h = (here c.s h, tt)
perform_purposed (AtStack Plp) c h = (tt, λ v. (above 1 c.s, λ p. tt))
perform_purposed (AtStack Pha) c h = (here c.s h, tt)
perform_purposed (AtStack Pla) c h = (tt, λ v. (above 1 c.s, λ p. tt))
perform_purposed (AtStack Rts) c h = (tt, λ v. (above 1 c.s, λ low. (above 2 c.s, λ high. (tt, λ w. tt))))
perform_purposed (AtStack Rti) c h = (tt, λ v. (above 1 c.s, λ p. (above 2 c.s, λ low. (above 3 c.s, λ high. tt))))
perform_purposed (Branch t o) c h = purposed_if (taken t c.p) _ _ (branch_purposed (target c.pc o) c) tt
perform_purposed (Jump low high) c h = tt
perform_purposed (JumpIndirect low high) c h = (refl, λ v. (refl, λ w. tt))
perform_purposed (Jsr low) c h = (tt, λ v. (here c.s h, (below 1 c.s, (refl, λ high. tt))))
perform_purposed Brk c h = (here c.s h, (below 1 c.s, (below 2 c.s, enter_purposed 0xFFFE c (omega arith) (omega arith))))
perform_purposed Txs c h = tt
perform_purposed Cli c h = tt
perform_purposed Undefined c h = tt

operate_purposed : (e : Entry) (c : Cpu) → c.s < 256 → Purposed (operate e c)
unfolding operate ◌>>=◌
operate_purposed undefined c h = tt
operate_purposed (alone i) c h = (tt, λ v. perform_purposed i c h)
operate_purposed (byte f) c h = (refl, λ v. perform_purposed (f v) (onward c) h)
operate_purposed (word f) c h = (refl, λ low. (refl, λ high. perform_purposed (f low high) (onward (onward c)) h))
operate_purposed (late f) c h = (refl, λ low. perform_purposed (f low) (onward c) h)

interrupt_purposed : (vector : ℕ) (c : Cpu) → 0xFFFA ≤ vector → vector < 0xFFFF → c.s < 256 → Purposed (interrupt vector c)
unfolding interrupt ◌>>=◌
interrupt_purposed vector c p q h =
    (tt, λ a. (tt, λ b. (here c.s h, (below 1 c.s, (below 2 c.s, enter_purposed vector c p q)))))

reset_purposed : (c : Cpu) → c.s < 256 → Purposed (reset c)
unfolding reset ◌>>=◌
reset_purposed c h = (
  tt,
  λ a. (
    tt,
    λ b. (
      here c.s h,
      λ d. (
        below 1 c.s,
        λ e. (
          below 2 c.s,
          λ f.
              enter_purposed 0xFFFC c (omega arith) (omega arith),
        ),
      ),
    ),
  ),
)

-- a read of the opcode at PC, and accesses that fit
abbrev Fetches : Cpu → List Access → Type 0
Fetches c [] = ⊥
Fetches c (a ∷ l) = (a.purpose ≡ Opcode) × (a.kind ≡ 0) × (a.address ≡ c.pc) × Each Fitting l

abbrev pub Tells : Event → Cpu → List Access → Type 0
Tells Res c l = Each Fitting l
Tells Nmi c l = Each Fitting l
Tells Irq c l = Each Fitting l
Tells Execute c l = Fetches c l

pub purposes : {M : Type 0} (memory : Memory M) (e : Event) (u : State) (m : M) → u.cpu.s < 256 →
    Tells e u.cpu (ran_of memory e u m).list
unfolding cycles_of instruction run ◌>>=◌
purposes memory Res u m h = purposed_each (board memory) (reset u.cpu) _ (reset_purposed u.cpu h)
purposes memory Nmi u m h =
    purposed_each (board memory) (interrupt 0xFFFA u.cpu) _ (interrupt_purposed 0xFFFA u.cpu (omega arith) (omega arith) h)
purposes memory Irq u m h =
    purposed_each (board memory) (interrupt 0xFFFE u.cpu) _ (interrupt_purposed 0xFFFE u.cpu (omega arith) (omega arith) h)
purposes memory Execute u m h =
    let e = decode (opcode_of memory u m) in
    let c = onward u.cpu in
    (refl, refl, refl, purposed_each (board memory) (operate e c) (world u.bus m) (operate_purposed e c h))
