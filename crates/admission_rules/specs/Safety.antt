-- Demand 3 of an accepted image, clause by clause; in brackets the definition that says it.
--   If the part is first reset [Safe] from a well-formed 6502 record with the same protected pages [Admissible],
--   each step gets that same image as it then stands, the record the last one left [History, Plays],
--   list room for one step [Proper] and lines and pins the part has, the non-maskable line stays quiet [ProperScript],
--   and after admission nobody else alters the stack page or the write-protected pages [Unaltered],
--   then under any further resets and interrupt requests
--   no step refuses [Fine.answered; nor does a run, History],
--   every instruction run is one the map names [Fine.named],
--   only pushes write the stack page [Fine.only],
--   and the bytes on the stack since the last reset or stack-pointer load [Stacked] stay between 0 and 256 [Fine.least, Fine.most].
use Rattle.std.specs.Prelude.{ℕ, zero, suc, ◌+◌, ◌*◌, ◌/◌, ◌<◌, ◌≤◌, ◌≡◌, true, false, ◌&&◌, List, [], ◌∷◌, eqb, length, drop, Ok}
use Rattle.rules.specs.declared.State.{State}
use Rattle.rules.specs.declared.Stacking.TheVariants.{Php, Plp, Pha, Pla, Rts, Rti}
use Rattle.rules.specs.declared.Instruction.{Instruction}
use Rattle.rules.specs.declared.Instruction.TheVariants.{Read, Store, Change, Accumulator, Implied, AtStack, Branch, Jump, JumpIndirect}
use Rattle.rules.specs.declared.Instruction.TheVariants.{Jsr, Brk, Txs, Cli, Undefined}
use Rattle.rules.specs.Basics.{when◌then◌else◌, at, address, sum16}
use Rattle.rules.specs.Opcodes.{decode, instruction_of}
use Rattle.rules.specs.Operations.{stack, down}
use Rattle.rules.specs.declared.Event.{Event}
use Rattle.rules.specs.declared.Event.TheVariants.{Res, Nmi, Irq, Execute}
use Rattle.rules.specs.Interrupts.{res_of, nmi_of}
use Rattle.rules.specs.Bus.{images, is_protected}
use Rattle.rules.specs.Record.{well_formed}
use Rattle.rules.specs.Step.{Outcome, state_now, event_now, opcode_of}
use Rattle.rules.specs.Run.{Tally, step_at, further, played, start, run_of}
use Rattle.admission_rules.specs.Admission.{mark_at, marks_in, admit}

-- "The bytes on the stack, for demand 3, are a whole number that never wraps": as how many were pushed and how many pulled since it was 0.
pub record Stacked : Type 0 where
  pub pushed : ℕ
  pub pulled : ℕ

-- What a step does to that number: "0 after a reset or TXS, one more for each byte that PHA, PHP, JSR or an IRQ pushes, one less for each
-- that PLA, RTS or RTI pulls (the read at S pulls none); these pushes are the only ones meant."
pub data Effect : Type 0 where
  none clears : Effect
  pushes pulls : ℕ → Effect

abbrev pub effect_of : Instruction → Effect
effect_of (Read o m) = none
effect_of (Store o m) = none
effect_of (Change o m) = none
effect_of (Accumulator o) = none
effect_of (Implied o) = none
effect_of (AtStack Php) = pushes 1
effect_of (AtStack Plp) = none
effect_of (AtStack Pha) = pushes 1
effect_of (AtStack Pla) = pulls 1
effect_of (AtStack Rts) = pulls 2
effect_of (AtStack Rti) = pulls 3
effect_of (Branch t o) = none
effect_of (Jump low high) = none
effect_of (JumpIndirect low high) = none
effect_of (Jsr low) = pushes 2
effect_of Brk = none
effect_of Txs = clears
effect_of Cli = none
effect_of Undefined = none

-- of a step whose instruction, where it executes one, has the effect e
abbrev pub effect_at : Event → Effect → Effect
effect_at Res e = clears
effect_at Nmi e = none
effect_at Irq e = pushes 3
effect_at Execute e = e

abbrev pub stacked_after : Effect → Stacked → Stacked
stacked_after none k = k
stacked_after clears k = record { pushed = 0; pulled = 0 }
stacked_after (pushes n) k = record { pushed = k.pushed + n; pulled = k.pulled }
stacked_after (pulls n) k = record { pushed = k.pushed; pulled = k.pulled + n }

-- the addresses that n pushes from S on write
abbrev pub push_addresses : ℕ → ℕ → List ℕ
push_addresses zero s = []
push_addresses (suc n) s = stack s ∷ push_addresses n (down 1 s)

abbrev pub pushes_of : Effect → ℕ → List ℕ
pushes_of none s = []
pushes_of clears s = []
pushes_of (pushes n) s = push_addresses n s
pushes_of (pulls n) s = []

-- the addresses in the stack page that the first n accesses of a list write
abbrev pub stack_writes : ℕ → List ℕ → List ℕ
stack_writes zero l = []
stack_writes (suc n) l =
    let later = stack_writes n (drop 8 l) in
    when eqb (at l 4) 1 && eqb (at l 1) 1 then address (at l 0) (at l 1) ∷ later else later

-- A call of the board, which gets the image as it then stands: a run of a script, or a step by itself, whose script is its lines and pins.
pub record Call : Type 0 where
  pub image : List ℕ
  pub script : List ℕ
  pub buffer : List ℕ

-- lines and pins that a 6502 has, NMI quiet
abbrev pub ProperScript : List ℕ → Type 0
ProperScript [] = Unit {0}
ProperScript (lines ∷ []) = ⊥
ProperScript (lines ∷ pins ∷ script) = (lines < 8) × (nmi_of lines ≡ false) × (pins ≡ 0) × ProperScript script

-- and list room for one step for each of its steps
pub record Proper (call : Call) : Type 0 where
  pub script : ProperScript call.script
  pub room : 56 * (length call.script / 2) ≤ length call.buffer

-- Between two calls, which leave m and get m', others may alter everything but the stack page and the protected pages.
pub record Unaltered (c : ℕ) (m m' : List ℕ) : Type 0 where
  pub size : length m' ≡ length m
  pub bytes : (p : ℕ) → at m' p < 256
  pub stack_page : (p : ℕ) → p / 256 ≡ 1 → at m' p ≡ at m p
  pub protected_pages : (p : ℕ) → is_protected c p ≡ true → at m' p ≡ at m p

-- the state of a call that stands at s (a step by itself stands at its `start`)
abbrev pub state_in : ℕ → Outcome Tally (List ℕ) → State
state_in pins s = state_now images s.state s.image pins

-- its next step
module _ (lines pins : ℕ) (s : Outcome Tally (List ℕ)) where
  abbrev pub event_in : Event
  event_in = event_now images s.state s.image lines pins

  abbrev pub effect : Effect
  effect =
      let u = state_in pins s in
      let low = at s.image (sum16 u.cpu.pc 1) in
      let high = at s.image (sum16 u.cpu.pc 2) in
      effect_at event_in (effect_of (instruction_of (decode (opcode_of images u s.image)) low high))

  -- what is promised of it, where k bytes were on the stack
  pub record Fine (map : List ℕ) (k : Stacked) : Type 0 where
    -- it does not refuse
    pub accesses : ℕ
    pub answered : (step_at images lines pins s).answer ≡ Ok accesses
    -- the map names the instruction that it runs
    pub named : event_in ≡ Execute → (i : ℕ) × (i < marks_in map) × ((mark_at map i).address ≡ (state_in pins s).cpu.pc)
    -- it writes the stack page only by its pushes
    pub only : stack_writes accesses (step_at images lines pins s).accesses ≡ pushes_of effect (state_in pins s).cpu.s
    -- it leaves 0 to 256 bytes on the stack
    pub least : (stacked_after effect k).pulled ≤ (stacked_after effect k).pushed
    pub most : (stacked_after effect k).pushed ≤ (stacked_after effect k).pulled + 256

-- Each step of a call that stands at s is fine, the next one gets what it leaves, and where the last one leaves off Then holds.
abbrev pub Plays : List ℕ → (Outcome Tally (List ℕ) → Stacked → Type 0) → List ℕ → Outcome Tally (List ℕ) →
    Stacked → Type 0
Plays map Then [] s k = Then s k
Plays map Then (lines ∷ []) s k = Then s k
Plays map Then (lines ∷ pins ∷ script) s k =
    (fine : Fine lines pins s map k) ×
    Plays map Then script (further s (step_at images lines pins s) fine.accesses) (stacked_after (effect lines pins s) k)

-- Calls one after the other, each with the record that the last one left and the image that it left, but for what others altered. A run
-- plays to its end: it leaves what its last step leaves, and answers how many steps it did and how many accesses they listed.
abbrev pub History : ℕ → List ℕ → List ℕ → List ℕ → Stacked → List Call → Type 0
History c map r m k [] = Unit {0}
History c map r m k (call ∷ later) =
    Unaltered c m call.image → Proper call →
    Plays map
    (λ s k. (run_of images r call.image call.script call.buffer ≡ played s) × History c map s.state s.image k later)
    call.script (start r call.image call.buffer) k

-- a well-formed 6502 record with these protected pages
pub record Admissible (c : ℕ) (r : List ℕ) : Type 0 where
  pub size : length r ≡ 16
  pub bytes : (k : ℕ) → at r k < 256
  pub formed : well_formed r ≡ true
  pub part : at r 0 ≡ 2
  pub pages : at r 11 ≡ c

-- every sequence of calls from such a record, of which the first begins with a reset
abbrev pub Safe : List ℕ → ℕ → List ℕ → Type 0
Safe m c map =
    (r : List ℕ) → Admissible c r → (call : Call) (later : List Call) → res_of (at call.script 0) ≡ true →
    History c map r m (record { pushed = 0; pulled = 0 }) (call ∷ later)

-- the demand: what admission accepts is safe
abbrev pub Demand3 : Type 0
Demand3 = (m : List ℕ) (c : ℕ) (map : List ℕ) → admit images m c map ≡ Ok tt → Safe m c map
