-- The bytes at PC are looked at before they are listed: reads leave the world as it is.
use Rattle.std.proofs.Common.{◌≡◌, ℕ, ◌<◌, Bool, true, false, eqb, List, map, sym, refl, ◌∙◌, arith}
use mathlib.Core.Bool.{false≢true}
use Rattle.rules.specs.declared.Bus.{Bus}
use Rattle.rules.specs.declared.Cpu.{Cpu}
use Rattle.rules.specs.declared.State.{State}
use Rattle.rules.specs.declared.Mode.{Mode}
use Rattle.rules.specs.declared.Mode.TheVariants.{Immediate, Zero, ZeroX, ZeroY, Absolute, AbsoluteX, AbsoluteY, IndirectX, IndirectY}
use Rattle.rules.specs.declared.Mode.TheVariants.{IndirectBankY}
use Rattle.rules.specs.declared.Instruction.TheVariants.{Undefined}
use Rattle.rules.specs.declared.Purpose.TheVariants.{Opcode, Operand}
use Rattle.rules.specs.Basics.{when◌then◌else◌, sum16}
use Rattle.rules.specs.Cycles.{Bank, execution, Cycles, done, ◌>>=◌, ◌>>◌, Ran, run}
use Rattle.rules.specs.Bus.{World, world, images, look, board}
use Rattle.rules.specs.Addressing.{get}
use Rattle.rules.specs.Opcodes.{Entry, undefined, alone, byte, word, late, decode, is_defined, instruction_of}
use Rattle.rules.specs.Table.{table}
use Rattle.rules.specs.Operations.{onward, operate, instruction}
use Rattle.rules.specs.Record.{record_of}
use Rattle.laws.proofs.Entries.{fetched_by}
use Rattle.rules.proofs.Table.{everywhere}
use Rattle.laws.specs.Goes.{Goes, Does}
use Rattle.laws.proofs.Goes.{ended, then_do, then_call}
use Rattle.wiring.specs.declared.bank.Wiring.{Wiring}
use Rattle.wiring.specs.Wiring.{Stands}
use Rattle.processor.specs.Begun.{short}
use Rattle.laws.specs.Sizes.{mode_size, size_in}
use Rattle.processor.specs.Found.{second_for}
use Rattle.processor.specs.Rest.{high_of, past_in, behind, begun_by, rest, Opens, Reaches}

-- each is one computed claim on the table of 256
sizes : (low high : ℕ) → map (λ (e : Entry). size_in 2 (instruction_of e low high)) table ≡ map fetched_by table
unfolding table
sizes low high = refl

pub size_is : (n low high : ℕ) → n < 256 → size_in 2 (instruction_of (decode n) low high) ≡ fetched_by (decode n)
size_is n low high h = everywhere (λ (e : Entry). size_in 2 (instruction_of e low high)) fetched_by (sizes low high) n h

tops : (low high : ℕ) → map (λ (e : Entry). high_of (instruction_of e low high) high) table ≡ map (λ (e : Entry). high) table
unfolding table
tops low high = refl

pub high_is : (n low high : ℕ) → n < 256 → high_of (instruction_of (decode n) low high) high ≡ high
high_is n low high h = everywhere (λ (e : Entry). high_of (instruction_of e low high) high) (λ (e : Entry). high) (tops low high) n h

shorts : (low high : ℕ) → map (λ (e : Entry). short (instruction_of e low high)) table ≡ map is_defined table
unfolding table
shorts low high = refl

pub short_is : (n low high : ℕ) → n < 256 → short (instruction_of (decode n) low high) ≡ is_defined (decode n)
short_is n low high h = everywhere (λ (e : Entry). short (instruction_of e low high)) is_defined (shorts low high) n h

-- what is not defined is decoded as Undefined
pub undefined_made : (e : Entry) (low high : ℕ) → is_defined e ≡ false → instruction_of e low high ≡ Undefined
undefined_made undefined low high h = refl
undefined_made (alone i) low high h = absurd (false≢true (sym h))
undefined_made (byte f) low high h = absurd (false≢true (sym h))
undefined_made (word f) low high h = absurd (false≢true (sym h))
undefined_made (late f) low high h = absurd (false≢true (sym h))

-- an instruction that has a mode is longer than one byte
pub longer : (m : Mode) → eqb (mode_size m) 1 ≡ false
longer (Immediate v) = refl
longer (Zero z) = refl
longer (ZeroX z) = refl
longer (ZeroY z) = refl
longer (Absolute low high) = refl
longer (AbsoluteX low high) = refl
longer (AbsoluteY low high) = refl
longer (IndirectX z) = refl
longer (IndirectY z) = refl
longer (IndirectBankY z) = refl

pub twice : (pc : ℕ) → sum16 (sum16 pc 1) 1 ≡ sum16 pc 2
twice pc = omega arith

thrice : (pc : ℕ) → sum16 (sum16 pc 2) 1 ≡ sum16 pc 3
thrice pc = omega arith

-- The central law: where the three bytes at PC are known, the instruction runs as two reads and the rest of what was decoded.
module _ (u : Bus) (i : List ℕ) where
  abbrev runs : Cycles Cpu → Ran (World (List ℕ)) Cpu
  runs t = run (board images) t (world u i)

  abbrev found : ℕ → ℕ
  found p = look images (world u i) execution p

  entered : (e : Entry) (c : Cpu) (low high : ℕ) → is_defined e ≡ true → low ≡ found (sum16 c.pc 1) → high ≡ found (sum16 c.pc 2) →
      size_in 2 (instruction_of e low high) ≡ fetched_by e →
      (let j = instruction_of e low high in
      runs (operate e (onward c)) ≡ runs (get (second_for (size_in 2 j)) (sum16 c.pc 1) >> rest j c))
  unfolding operate run rest ◌>>=◌
  entered undefined c low high h p q z = absurd (false≢true h)
  entered (alone j) c low high h p q z = rw z
  entered (byte f) c low high h p q z = rw (z, ← p, twice c.pc)
  entered (word f) c low high h p q z = rw (z, ← p, twice c.pc, ← q, thrice c.pc)
  entered (late f) c low high h p q z = rw (z, ← p, twice c.pc)

  pub fetched_first : (c : Cpu) (op low high : ℕ) → op < 256 → is_defined (decode op) ≡ true →
      op ≡ found c.pc → low ≡ found (sum16 c.pc 1) → high ≡ found (sum16 c.pc 2) →
      (let j = instruction_of (decode op) low high in
      runs (instruction c) ≡ runs (get Opcode c.pc >> (get (second_for (size_in 2 j)) (sum16 c.pc 1) >> rest j c)))
  unfolding instruction run ◌>>=◌
  fetched_first c op low high b h o p q = rw (← o) (rw (entered (decode op) c low high h p q (size_is op low high b)))

-- trees that run alike
pub alike : {t t' : Cycles Cpu} {k n : ℕ} {s : State} {i l r' i' l' : List ℕ} →
    run (board images) t (world s.bus i) ≡ run (board images) t' (world s.bus i) →
    Does t' k s i l n r' i' l' → Does t k s i l n r' i' l'
alike e d =
    record {
      cpu = d.cpu;
      bus = d.bus;
      bytes = d.bytes;
      goes = record { made = d.goes.made; ran = e ∙ d.goes.ran; count = d.goes.count; listed = d.goes.listed };
    }

-- a tree behind its fetched bytes
pub opened : {A : Type 0} (n pc : ℕ) (t : Cycles A) {m : ℕ} {u u' : Bus} {i l i' l₁ l' : List ℕ} {a : A} →
    Goes {A = Unit {0}} (behind n pc (done tt)) 2 u i l tt (begun_by n) u i l₁ → Goes t (begun_by n) u i l₁ a m u' i' l' →
    Goes (behind n pc t) 2 u i l a m u' i' l'
unfolding ◌>>=◌
opened n pc t {m} {u} {u'} {i} {l} {i'} {l₁} {l'} {a} = go (eqb n 3)
  where
    go : (b : Bool) →
        Goes {A = Unit {0}} (when b then get Operand (sum16 pc 2) >> done tt else done tt) 2 u i l tt (when b then 3 else 2) u i l₁ →
        Goes t (when b then 3 else 2) u i l₁ a m u' i' l' → Goes (when b then get Operand (sum16 pc 2) >> t else t) 2 u i l a m u' i' l'
    go true d e = then_do t d e
    go false d e = then_do t d e

pub reaches : (n : ℕ) {t : Cycles ℕ} {s : State} {i l r' l₁ l' : List ℕ} {v k : ℕ} → Opens n s i l r' l₁ →
    Goes t (begun_by n) s.bus i l₁ v k s.bus i l' → Reaches n t s i l v k r' l'
reaches n {s = s} o g = record { bytes = o.bytes; goes = opened n s.cpu.pc _ o.goes g }

-- an instruction behind its fetched bytes
pub opened_does : (n : ℕ) {t : Cycles Cpu} {s : State} {m : ℕ} {i l r₁ l₁ r' i' l' : List ℕ} → Opens n s i l r₁ l₁ →
    Does t (begun_by n) (past_in n s) i l₁ m r' i' l' → Does (behind n s.cpu.pc t) 2 s i l m r' i' l'
opened_does n {s = s} o d = record { cpu = d.cpu; bus = d.bus; bytes = d.bytes; goes = opened n s.cpu.pc _ o.goes d.goes }

-- one byte is fetched, or two: nothing more is listed
pub one : {s : State} {i l r' : List ℕ} → r' ≡ record_of (past_in 1 s) → Opens 1 s i l r' l
one e = record { bytes = e; goes = ended }

pub two : {s : State} {i l r' : List ℕ} → r' ≡ record_of (past_in 2 s) → Opens 2 s i l r' l
two e = record { bytes = e; goes = ended }

pub stands_past : {κ : Bank} {s : State} {r r' : List ℕ} {w : Wiring} (n : ℕ) → Stands κ s r w →
    r' ≡ record_of (past_in n s) → Stands κ (past_in n s) r' w
stands_past n h e = record { bytes = e; wired = h.wired }

-- what follows what a mode found
behind_call : {A B : Type 0} (n pc : ℕ) (t : Cycles A) (f : A → Cycles B) → behind n pc (t >>= f) ≡ behind n pc t >>= f
unfolding ◌>>=◌
behind_call n pc t f = go (eqb n 3)
  where
    go : (b : Bool) →
        (when b then get Operand (sum16 pc 2) >> (t >>= f) else t >>= f) ≡ (when b then get Operand (sum16 pc 2) >> t else t) >>= f
    go true = refl
    go false = refl

pub reaches_on : (n : ℕ) {t : Cycles ℕ} {s : State} {i l r₁ l₁ l' : List ℕ} {v v' k k' : ℕ} (g : ℕ → Cycles ℕ) →
    Reaches n t s i l v k r₁ l₁ → Goes (g v) k s.bus i l₁ v' k' s.bus i l' →
    Reaches n (t >>= g) s i l v' k' r₁ l'
reaches_on n {t} {s} g o d =
    record { bytes = o.bytes; goes = rw (behind_call n s.cpu.pc t g) (then_call g o.goes d) }

pub reached : (n : ℕ) {t : Cycles ℕ} {s : State} {i l r₁ l₁ r' i' l' : List ℕ} {v k m : ℕ} (g : ℕ → Cycles Cpu) →
    Reaches n t s i l v k r₁ l₁ → Does (g v) k (past_in n s) i l₁ m r' i' l' →
    Does (behind n s.cpu.pc (t >>= g)) 2 s i l m r' i' l'
reached n {t} {s} g o d =
    rw (behind_call n s.cpu.pc t g)
    (record { cpu = d.cpu; bus = d.bus; bytes = d.bytes; goes = then_call g o.goes d.goes })
