-- One step: what it answers, and what it leaves in the record, the image and the access buffer.
use Rattle.std.specs.Prelude.{ℕ, ◌+◌, ◌/◌, ◌%◌, Bool, true, not, ◌&&◌, ◌||◌, List, [], ◌∷◌, ◌++◌, ltb, leb, eqb, length, drop}
use Rattle.std.specs.Prelude.{Result, Ok, Err}
use Rattle.rules.specs.declared.Bus.{Bus}
use Rattle.rules.specs.declared.Cpu.{Cpu}
use Rattle.rules.specs.declared.State.{State}
use Rattle.rules.specs.declared.Refusal.{Refusal}
use Rattle.rules.specs.declared.Refusal.TheVariants.{RecordLength, Malformed, ImageLength, Lines, Room, Undefined}
use Rattle.rules.specs.Basics.{at}
use Rattle.rules.specs.Cycles.{execution, Ran, run}
use Rattle.rules.specs.Opcodes.{decode, is_defined}
use Rattle.rules.specs.declared.Event.{Event}
use Rattle.rules.specs.declared.Event.TheVariants.{Res, Nmi, Irq, Execute}
use Rattle.rules.specs.Interrupts.{nmi_of, event_of, cycles_of}
use Rattle.rules.specs.Bus.{is6508, is6509, reset_bus, Memory, World, world, look, board, list_of}
use Rattle.rules.specs.Record.{state_of, record_of, well_formed}
use Rattle.rules.specs.Answers.{Test, ◌unless◌, tested}

-- what a call answers, and leaves in the buffers that it was lent
pub record Outcome (A M : Type 0) : Type 0 where
  pub answer : A
  pub state : List ℕ
  pub image : M
  pub accesses : List ℕ

abbrev pub left : {A M : Type 0} → A → List ℕ → M → List ℕ → Outcome A M
left a r m l = record { answer = a; state = r; image = m; accesses = l }

-- the same with the answer in other words
abbrev pub worded : {A B M : Type 0} → (A → B) → Outcome A M → Outcome B M
worded f o = left (f o.answer) o.state o.image o.accesses

-- "no byte moves"
abbrev pub refused : {M : Type 0} → List ℕ → M → List ℕ → Refusal → Outcome (Result ℕ Refusal) M
refused r m buffer e = left (Err e) r m buffer

-- "The image is 65,536 bytes; for the 6509, k banks of that size, k = 1, 2, 4, 8 or 16"
abbrev pub banks_in : ℕ → ℕ
banks_in size = size / 65536

abbrev pub image_fits : ℕ → ℕ → Bool
image_fits part size =
    let k = banks_in size in
    eqb (size % 65536) 0 && (eqb k 1 || is6509 part && (eqb k 2 || eqb k 4 || eqb k 8 || eqb k 16))

-- "line bits 3 to 7 set; NMI on 6508; pins not 0 off the 6508"
abbrev pub lines_fit : ℕ → ℕ → ℕ → Bool
lines_fit part lines pins = ltb lines 8 && not (is6508 part && nmi_of lines) && (is6508 part || eqb pins 0)

-- RES sets the bus's registers "before its first access"
abbrev pub bus_at : Event → Bus → Bus
bus_at Res b = reset_bus b
bus_at Nmi b = b
bus_at Irq b = b
bus_at Execute b = b

-- "These fill the buffer's front; later bytes stay."
abbrev pub front : List ℕ → List ℕ → List ℕ
front l buffer = l ++ drop (length l) buffer

-- "Every step stores the NMI level, answers its number of accesses and adds it to the record's count", "modulo 2^32"
abbrev pub state_after : {M : Type 0} → ℕ → State → Ran (World M) Cpu → State
state_after lines u ran =
    record {
      cpu = ran.value;
      bus = ran.after.bus;
      nmi = nmi_of lines;
      cycles = (u.cycles + length ran.list) % 4294967296;
    }

unfoldable pub finished : {M : Type 0} → ℕ → State → Ran (World M) Cpu → List ℕ → Outcome (Result ℕ Refusal) M
finished lines u ran buffer =
    left (Ok (length ran.list)) (record_of (state_after lines u ran)) ran.after.image (front (list_of ran.list) buffer)

module _ {M : Type 0} (memory : Memory M) where
  -- a step's accesses, made
  abbrev pub ran_of : Event → State → M → Ran (World M) Cpu
  ran_of e u m = run (board memory) (cycles_of e u.cpu) (world (bus_at e u.bus) m)

  -- the opcode at PC
  abbrev pub opcode_of : State → M → ℕ
  opcode_of u m = look memory (world u.bus m) execution u.cpu.pc

  abbrev pub can_step : Event → State → M → Bool
  can_step Res u m = true
  can_step Nmi u m = true
  can_step Irq u m = true
  can_step Execute u m = is_defined (decode (opcode_of u m))

  module _ (r : List ℕ) (m : M) where
    -- what step and run refuse first
    abbrev pub record_tests : List Test
    record_tests =
        RecordLength unless eqb (length r) 16 ∷
        Malformed unless well_formed r ∷
        ImageLength unless image_fits (at r 0) (memory.size m) ∷ []

    abbrev pub state_now : ℕ → State
    state_now pins = state_of r pins (banks_in (memory.size m))

    module _ (lines pins : ℕ) where
      abbrev pub event_now : Event
      event_now = let u = state_now pins in event_of lines u.nmi u.cpu

      module _ (buffer : List ℕ) where
        -- "Step: 1 to 6 in order; 6 adds PC and opcode"
        abbrev pub step_tests : List Test
        step_tests =
            let u = state_now pins in
            record_tests ++
            Lines unless lines_fit (at r 0) lines pins ∷
            Room unless leb 56 (length buffer) ∷
            Undefined u.cpu.pc (opcode_of u m) unless can_step event_now u m ∷ []

        unfoldable pub step : Outcome (Result ℕ Refusal) M
        step = let u = state_now pins in tested step_tests (refused r m buffer) (finished lines u (ran_of event_now u m) buffer)
