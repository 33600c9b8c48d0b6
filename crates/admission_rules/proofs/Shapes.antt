-- What is asked of the decoder: how an entry takes its operand, whichever entries there are.
use Prim.Native.Nat.{ℕ, zero, suc, ◌<◌}
use native.Mathlib.Omega.{arith}
use mathlib.Core.Path.{◌≡◌, refl, ap, ◌∙◌}
use mathlib.Core.Bool.{Bool, true, false, false≢true}
use mathlib.Core.List.{List, [], ◌∷◌}
use lib.Dec.{eqb}
use lib.ListN.{length, get_or, drop, replicate}
use Rattle.rules.specs.declared.Cpu.{Cpu}
use Rattle.rules.specs.declared.Mode.{Mode}
use Rattle.rules.specs.declared.Mode.TheVariants.{Immediate, Zero, ZeroX, ZeroY, Absolute, AbsoluteX, AbsoluteY, IndirectX, IndirectY}
use Rattle.rules.specs.declared.Mode.TheVariants.{IndirectBankY}
use Rattle.rules.specs.declared.Instruction.{Instruction}
use Rattle.rules.specs.declared.Instruction.TheVariants.{Read, Store, Change, Accumulator, Implied, AtStack, Branch, Jump, JumpIndirect}
use Rattle.rules.specs.declared.Instruction.TheVariants.{Jsr, Brk, Txs, Cli, Undefined}
use Rattle.rules.specs.Basics.{when◌then◌else◌, at, address, sum16}
use Rattle.rules.specs.Cycles.{◌>>=◌}
use Rattle.rules.specs.Opcodes.{Entry, undefined, alone, byte, word, late, Row, rows, among, decode, is_defined, instruction_of}
use Rattle.rules.specs.Operations.{with_pc, perform, operate, instruction, onward}
use Rattle.laws.proofs.Tests.{if_case}
use Rattle.laws.proofs.Entries.{fetched_by}
use Rattle.admission_rules.proofs.Ends.{ends}
use Rattle.admission_rules.proofs.Places.{Small}

-- That entries take their operands rightly is said by equations, so that it is computed of all rows at once: what an instruction made of
-- low and high gives back is both, which are its operand where the operand's size matters, and one more where something is wrong. An
-- address (wide) is no data and no address of page zero, and JSR is late.

abbrev pub mode_gives : Bool → ℕ → ℕ → Mode → ℕ × ℕ
mode_gives wide low high (Immediate v) = (when wide then suc low else v, high)
mode_gives wide low high (Zero z) = (when wide then suc low else z, high)
mode_gives wide low high (ZeroX z) = (low, high)
mode_gives wide low high (ZeroY z) = (low, high)
mode_gives wide low high (Absolute l h) = (low, high)
mode_gives wide low high (AbsoluteX l h) = (l, h)
mode_gives wide low high (AbsoluteY l h) = (l, h)
mode_gives wide low high (IndirectX z) = (low, high)
mode_gives wide low high (IndirectY z) = (low, high)
mode_gives wide low high (IndirectBankY z) = (low, high)

abbrev pub gives : Bool → ℕ → ℕ → Instruction → ℕ × ℕ
gives wide low high (Read o d) = mode_gives wide low high d
gives wide low high (Store o d) = mode_gives wide low high d
gives wide low high (Change o d) = mode_gives wide low high d
gives wide low high (Accumulator o) = (low, high)
gives wide low high (Implied o) = (low, high)
gives wide low high (AtStack o) = (low, high)
gives wide low high (Branch t o) = (low, high)
gives wide low high (Jump l h) = (low, high)
gives wide low high (JumpIndirect l h) = (low, high)
gives wide low high (Jsr l) = (suc low, high)
gives wide low high Brk = (low, high)
gives wide low high Txs = (low, high)
gives wide low high Cli = (low, high)
gives wide low high Undefined = (low, high)

abbrev pub entry_gives : ℕ → ℕ → Entry → ℕ × ℕ
entry_gives low high undefined = (low, high)
entry_gives low high (alone i) = gives false low high i
entry_gives low high (byte f) = gives false low high (f low)
entry_gives low high (word f) = gives true low high (f low high)
entry_gives low high (late f) = (low, high)

-- what is late is JSR
abbrev pub late_gives : ℕ → Entry → Instruction
late_gives v undefined = Jsr v
late_gives v (alone i) = Jsr v
late_gives v (byte f) = Jsr v
late_gives v (word f) = Jsr v
late_gives v (late f) = f v

module _ {A : Type 0} (f : Entry → A) (x : A) where
  abbrev of_rows : List Row → List A
  of_rows [] = []
  of_rows (r ∷ rs) = f r.entry ∷ of_rows rs

  among_gives : f undefined ≡ x → (l : List Row) (n k : ℕ) → of_rows l ≡ replicate k x → f (among l n) ≡ x
  among_gives u [] n k h = u
  among_gives u (r ∷ l) n zero h = let e : suc (length (of_rows l)) ≡ 0 = ap length h in absurd (omega arith)
  among_gives u (r ∷ l) n (suc k) h =
      if_case (λ (e : Entry). f e ≡ x) (eqb n r.opcode) _ _ (λ e. ap (λ (y : List A). get_or y 0 x) h)
      (λ e. among_gives u l n k (ap (drop 1) h))

pub decode_gives : (n low high : ℕ) → entry_gives low high (decode n) ≡ (low, high)
unfolding decode
decode_gives n low high = among_gives (entry_gives low high) (low, high) refl rows n 151 refl

pub decode_late : (n v : ℕ) → late_gives v (decode n) ≡ Jsr v
unfolding decode
decode_late n v = among_gives (late_gives v) (Jsr v) refl rows n 151 refl

narrow : (wide : Bool) (low v high : ℕ) → ◌≡◌ {A = ℕ × ℕ} (when wide then suc low else v, high) (low, high) → low < 256 → v < 256
narrow true low v high e l = let z : suc low ≡ low = ap (λ (q : ℕ × ℕ). q.0) e in absurd (omega arith)
narrow false low v high e l = let z : v ≡ low = ap (λ (q : ℕ × ℕ). q.0) e in omega arith

whole : (a b low high : ℕ) → ◌≡◌ {A = ℕ × ℕ} (a, b) (low, high) → low < 256 → high < 256 → address a b < 65536
whole a b low high e l h =
    let x : a ≡ low = ap (λ (q : ℕ × ℕ). q.0) e in
    let y : b ≡ high = ap (λ (q : ℕ × ℕ). q.1) e in
    omega arith

-- so the size of an operand is its mode's
pub small : (wide : Bool) (low high : ℕ) (d : Mode) → mode_gives wide low high d ≡ (low, high) → low < 256 → high < 256 → Small d
small wide low high (Immediate v) e l h = narrow wide low v high e l
small wide low high (Zero z) e l h = narrow wide low z high e l
small wide low high (ZeroX z) e l h = tt
small wide low high (ZeroY z) e l h = tt
small wide low high (Absolute a b) e l h = tt
small wide low high (AbsoluteX a b) e l h = whole a b low high e l h
small wide low high (AbsoluteY a b) e l h = whole a b low high e l h
small wide low high (IndirectX z) e l h = tt
small wide low high (IndirectY z) e l h = tt
small wide low high (IndirectBankY z) e l h = tt

pub on_one : (p k : ℕ) → sum16 (sum16 p k) 1 ≡ sum16 p (suc k)
on_one p k = omega arith

operate_ends : (c : ℕ) (u : Cpu) (m : List ℕ) (e : Entry) → is_defined e ≡ true →
    ends c (operate e (onward u)) m ≡
    ends c (perform (instruction_of e (at m (sum16 u.pc 1)) (at m (sum16 u.pc 2))) (with_pc (sum16 u.pc (fetched_by e)) u)) m
unfolding operate ends ◌>>=◌
operate_ends c u m undefined h = absurd (false≢true h)
operate_ends c u m (alone i) h = refl
operate_ends c u m (byte f) h = rw (on_one u.pc 1)
operate_ends c u m (word f) h = rw (on_one u.pc 1, on_one u.pc 2)
operate_ends c u m (late f) h = rw (on_one u.pc 1)

-- the instruction at PC ends as what it was made into
pub instruction_ends : (c : ℕ) (u : Cpu) (m : List ℕ) (e : Entry) → decode (at m u.pc) ≡ e → is_defined e ≡ true →
    ends c (instruction u) m ≡
    ends c (perform (instruction_of e (at m (sum16 u.pc 1)) (at m (sum16 u.pc 2))) (with_pc (sum16 u.pc (fetched_by e)) u)) m
unfolding instruction ends ◌>>=◌
instruction_ends c u m e d h = ap (λ (x : Entry). ends c (operate x (onward u)) m) d ∙ operate_ends c u m e h
