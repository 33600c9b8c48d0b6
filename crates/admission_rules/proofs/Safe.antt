-- Demand 3: what admission accepts is safe.
use Prim.Native.Nat.{ℕ, ◌+◌, ◌*◌, ◌/◌, ◌%◌, ◌<◌, ◌≤◌}
use native.Mathlib.Omega.{arith}
use mathlib.Core.Path.{◌≡◌, refl, ap, ◌∙◌}
use mathlib.Core.Bool.{true, false≢true}
use mathlib.Core.List.{List, [], ◌∷◌}
use borrow.Author.Tests.{le-leb, lt-ltb, eq-eqb}
use lib.ListN.{length, take, drop, length-append, length-drop}
use lib.Seq.{length-take-le}
use Rattle.rules.specs.declared.Bus.{Bus}
use Rattle.rules.specs.declared.Cpu.{Cpu}
use Rattle.rules.specs.declared.State.{State}
use Rattle.std.specs.Prelude.{Result, Ok}
use Rattle.rules.specs.declared.Refusal.{Refusal}
use Rattle.rules.specs.Basics.{at}
use Rattle.rules.specs.Cycles.{execution, Ran}
use Rattle.rules.specs.Opcodes.{decode, is_defined}
use Rattle.rules.specs.declared.Event.{Event}
use Rattle.rules.specs.declared.Event.TheVariants.{Res, Nmi, Irq, Execute}
use Rattle.rules.specs.Interrupts.{res_of, event_of, cycles_of}
use Rattle.rules.specs.Bus.{reset_bus, images, World}
use Rattle.rules.specs.Record.{state_of, record_of, well_formed}
use Rattle.rules.specs.Step.{Outcome, bus_at, ran_of, state_after, finished, opcode_of, can_step, refused, step_tests, step}
use Rattle.rules.specs.Run.{Tally, step_at, further, played, stopped, continued, play, start, run_tests, run_of}
use Rattle.admission_rules.specs.Safety.{Stacked, Effect, effect_at, stacked_after, pushes_of, stack_writes, Call, ProperScript, Proper}
use Rattle.admission_rules.specs.Safety.{state_in, event_in, effect, Plays, History, Admissible, Safe, Demand3}
use Rattle.laws.proofs.Tests.{Hold, tested_all}
use Rattle.laws.proofs.Records.{read_again}
use Rattle.laws.proofs.Steps.{lawful}
use Rattle.admission_rules.proofs.Stacks.{bounded}
use Rattle.admission_rules.proofs.Marks.{Admitted, admitted}
use Rattle.admission_rules.proofs.Ends.{End, ends, look_6502, Ended, run_ends, listed_writes}
use Rattle.admission_rules.proofs.Places.{Bytes}
use Rattle.admission_rules.proofs.Performs.{Image, Ready, few}
use Rattle.admission_rules.proofs.Events.{effect_here, Well, well_reset, well, others_image, others}

-- a record of a 6502 with c protected pages
record Sixteen (c : ℕ) (r : List ℕ) : Type 0 where
  size : length r ≡ 16
  formed : well_formed r ≡ true
  part : at r 0 ≡ 2
  pages : at r 11 ≡ c

sixteen : (c : ℕ) (r : List ℕ) → Admissible c r → Sixteen c r
sixteen c r x = record { size = x.size; formed = x.formed; part = x.part; pages = x.pages }

-- the registers in it, whatever comes from beside it
abbrev cpu_in : List ℕ → Cpu
cpu_in r = (state_of r 0 1).cpu

register_bytes : (c : ℕ) (r : List ℕ) → Admissible c r → Bytes (cpu_in r)
unfolding state_of
register_bytes c r x = record { a = x.bytes 1; x = x.bytes 2; y = x.bytes 3; s = x.bytes 4 }

bus_part : (e : Event) (b : Bus) → (bus_at e b).part ≡ b.part
unfolding reset_bus
bus_part Res b = refl
bus_part Nmi b = refl
bus_part Irq b = refl
bus_part Execute b = refl

bus_protected : (e : Event) (b : Bus) → (bus_at e b).protected ≡ b.protected
unfolding reset_bus
bus_protected Res b = refl
bus_protected Nmi b = refl
bus_protected Irq b = refl
bus_protected Execute b = refl

abbrev start_of : List ℕ → Call → Outcome Tally (List ℕ)
start_of r x = start r x.image x.buffer

even : (script : List ℕ) → ProperScript script → length script % 2 ≡ 0
even [] p = refl
even (lines ∷ []) p = absurd p
even (lines ∷ pins ∷ rest) p = omega (arith, even rest p.3)

-- a call that stands at s has room for the rest of its script
abbrev Room : List ℕ → Outcome Tally (List ℕ) → Type 0
Room script s = 8 * s.answer.listed + 56 * (length script / 2) ≤ length s.accesses

module _ (m₀ : List ℕ) (c : ℕ) (map : List ℕ) (ad : Admitted m₀ c map) where
  -- what a step o with this effect leaves, from S on and with k bytes on the stack
  record After (e : Effect) (s : ℕ) (k : Stacked) (o : Outcome (Result ℕ Refusal) (List ℕ)) : Type 0 where
    accesses : ℕ
    answered : o.answer ≡ Ok accesses
    only : stack_writes accesses o.accesses ≡ pushes_of e s
    ready : Ready m₀ c map ad (cpu_in o.state) o.image (stacked_after e k)

  after : (lines : ℕ) (u : State) (buffer : List ℕ) (b : Bus) (is : b.part ≡ 2) (ran : Ran (World (List ℕ)) Cpu) (x : End Cpu) →
      Ended b is ran x → (e : Effect) (s : ℕ) (k : Stacked) → x.writes ≡ pushes_of e s →
      Ready m₀ c map ad x.value x.image (stacked_after e k) → After e s k (finished lines u ran buffer)
  unfolding finished state_of
  after lines u buffer b is ran x h e s k only ready =
      let v = state_after lines u ran in
      let cpu : cpu_in (record_of v) ≡ x.value = ap (λ (w : State). w.cpu) (read_again v) ∙ h.value in
      record {
        accesses = length ran.list;
        answered = refl;
        only = listed_writes ran.list _ ∙ h.writes ∙ only;
        ready = rw (cpu, h.after) ready;
      }

  module _ (lines pins : ℕ) (s : Outcome Tally (List ℕ)) (k : Stacked) (six : Sixteen c s.state) where
    abbrev u : State
    u = state_in pins s

    abbrev e : Event
    e = event_in lines pins s

    abbrev o : Outcome (Result ℕ Refusal) (List ℕ)
    o = step_at images lines pins s

    abbrev bus : Bus
    bus = bus_at e u.bus

    abbrev rest : List ℕ
    rest = drop (8 * s.answer.listed) s.accesses

    is_6502 : u.bus.part ≡ 2
    unfolding state_of
    is_6502 = six.part

    protects : u.bus.protected ≡ c
    unfolding state_of
    protects = six.pages

    opcode_is : opcode_of images u s.image ≡ at s.image u.cpu.pc
    opcode_is = look_6502 u.bus is_6502 s.image execution u.cpu.pc

    effect_is : effect lines pins s ≡ effect_at e (effect_here m₀ c map ad u.cpu s.image)
    effect_is = rw opcode_is

    can : (d : Event) → (d ≡ Execute → is_defined (decode (at s.image u.cpu.pc)) ≡ true) →
        can_step images d u s.image ≡ true
    can Res h = refl
    can Nmi h = refl
    can Irq h = refl
    can Execute h = rw opcode_is (h refl)

    -- the next step, of a script that is proper and has room, goes well
    module _ (size : length s.image ≡ 65536) (fits : lines < 8) (none : pins ≡ 0) (room : 56 ≤ length rest)
        (w : Well m₀ c map ad e u.cpu s.image k) where
      holds : Hold (step_tests images s.state s.image lines pins rest)
      holds = (
        eq-eqb _ _ six.size,
        (six.formed, (rw (six.part, size), (rw (six.part, lt-ltb lines 8 fits, none), (le-leb _ _ room, (can e w.defined, tt))))),
      )

      step_is : o ≡ finished lines u (ran_of images e u s.image) rest
      unfolding step
      step_is =
          tested_all (step_tests images s.state s.image lines pins rest) (refused s.state s.image rest) _ holds

      after_step : After (effect lines pins s) u.cpu.s k o
      after_step =
          let is = bus_part e u.bus ∙ is_6502 in
          let x = run_ends bus is (cycles_of e u.cpu) s.image in
          let pages = bus_protected e u.bus ∙ protects in
          rw (step_is, effect_is)
          (after lines u rest bus is (ran_of images e u s.image) (ends c (cycles_of e u.cpu) s.image) (rw pages at x)
          _ u.cpu.s k w.done.only w.done.next)

      -- where the call stands after it
      abbrev next : Outcome Tally (List ℕ)
      next = further s o after_step.accesses

      -- it is fine, and so is the rest of the script if it is so from there
      step_plays : (Then : Outcome Tally (List ℕ) → Stacked → Type 0) (script : List ℕ) → Room (lines ∷ pins ∷ script) s →
          ((t : Outcome Tally (List ℕ)) (l : Stacked) → Sixteen c t.state → Ready m₀ c map ad (cpu_in t.state) t.image l →
          Room script t → play images (lines ∷ pins ∷ script) s ≡ play images script t → Plays map Then script t l) →
          Plays map Then (lines ∷ pins ∷ script) s k
      unfolding play
      step_plays Then script h on =
          let i = 8 * s.answer.listed in
          let a = after_step in
          let d = (lawful images s.state s.image lines pins rest).moves a.accesses a.answered in
          let before = length-take-le i s.accesses (omega arith) in
          let size = length-append (take i s.accesses) o.accesses in
          let later : Room script next = omega (arith, d.most, d.size, before, size, length-drop i s.accesses) in
          let n = bounded map ad.N _ _ _ _ _ a.ready.stands (few m₀ c map ad) in (
            record {
              accesses = a.accesses;
              answered = a.answered;
              named = w.named;
              only = a.only;
              least = omega (arith, n.0);
              most = omega (arith, n.1);
            },
            on next (stacked_after (effect lines pins s) k)
                (record { size = d.record_size; formed = d.record_formed; part = d.part ∙ six.part; pages = d.pages ∙ six.pages })
                a.ready later (ap (λ (x : Result ℕ Refusal). continued (play images script) s o x) a.answered),
          )

  -- a script that is about to be played from s: its first step goes well, or it has none
  abbrev Begins : List ℕ → Outcome Tally (List ℕ) → Stacked → Type 0
  Begins [] s k = Ready m₀ c map ad (cpu_in s.state) s.image k
  Begins (lines ∷ []) s k = ⊥
  Begins (lines ∷ pins ∷ script) s k =
      (length s.image ≡ 65536) × Well m₀ c map ad (event_in lines pins s) (state_in pins s).cpu s.image k

  begins : (script : List ℕ) (s : Outcome Tally (List ℕ)) (k : Stacked) → ProperScript script →
      Ready m₀ c map ad (cpu_in s.state) s.image k → Begins script s k
  unfolding state_of
  begins [] s k p ready = ready
  begins (lines ∷ []) s k p ready = p
  begins (lines ∷ pins ∷ script) s k p ready = (
    ready.image.size,
    well m₀ c map ad (cpu_in s.state) s.image k ready lines (state_in pins s).nmi p.1,
  )

  -- from a reset on
  resets : (script : List ℕ) (s : Outcome Tally (List ℕ)) (k : Stacked) → ProperScript script → res_of (at script 0) ≡ true →
      Bytes (cpu_in s.state) → Image m₀ c map ad s.image → Begins script s k
  unfolding state_of event_of
  resets [] s k p first registers image = absurd (false≢true first)
  resets (lines ∷ []) s k p first registers image = p
  resets (lines ∷ pins ∷ script) s k p first registers image = (
    image.size,
    rw first (well_reset m₀ c map ad (cpu_in s.state) s.image k registers image),
  )

  plays : (Then : Outcome Tally (List ℕ) → Stacked → Type 0) (script : List ℕ) (s : Outcome Tally (List ℕ)) (k : Stacked) →
      Sixteen c s.state → Begins script s k → ProperScript script → Room script s →
      ((t : Outcome Tally (List ℕ)) (l : Stacked) → Sixteen c t.state → Ready m₀ c map ad (cpu_in t.state) t.image l →
      play images script s ≡ played t → Then t l) →
      Plays map Then script s k
  unfolding play
  plays Then [] s k six b p room end = end s k six b refl
  plays Then (lines ∷ []) s k six b p room end = absurd p
  plays Then (lines ∷ pins ∷ script) s k six b p room end =
      let left : 56 ≤ length (drop (8 * s.answer.listed) s.accesses) =
      omega (arith, length-drop (8 * s.answer.listed) s.accesses) in
      step_plays lines pins s k six b.0 p.0 p.2 left b.1 Then script room
      (λ t l again ready later same. plays Then script t l again (begins script t l p.3 ready) p.3 later
      (λ v n sixteen there e. end v n sixteen there (same ∙ e)))

  -- where a call leaves off, the next may go on
  module _ (x : Call) (r : List ℕ) (k : Stacked) (six : Sixteen c r) (size : length x.image ≡ 65536) (p : Proper x) where
    run_is : run_of images r x.image x.script x.buffer ≡ play images x.script (start_of r x)
    unfolding run_of
    run_is =
        let tests = run_tests images r x.image x.script in
        let hold : Hold tests =
        (eq-eqb _ _ six.size, (six.formed, (rw (six.part, size), (eq-eqb _ _ (even x.script p.script), tt)))) in
        tested_all tests (stopped (start_of r x)) (play images x.script (start_of r x)) hold

    call_plays : (Then : Outcome Tally (List ℕ) → Stacked → Type 0) → Begins x.script (start_of r x) k →
        ((t : Outcome Tally (List ℕ)) (l : Stacked) → Sixteen c t.state →
        Ready m₀ c map ad (cpu_in t.state) t.image l → Then t l) →
        Plays map (λ t l. (run_of images r x.image x.script x.buffer ≡ played t) × Then t l) x.script (start_of r x) k
    call_plays Then b end =
        plays _ x.script (start_of r x) k six b p.script (omega (arith, p.room))
        (λ t l sixteen there e. (run_is ∙ e, end t l sixteen there))

  history : (xs : List Call) (r m : List ℕ) (k : Stacked) → Sixteen c r → Ready m₀ c map ad (cpu_in r) m k → History c map r m k xs
  history [] r m k six ready = tt
  history (x ∷ xs) r m k six ready = λ o p.
      let now = others m₀ c map ad (cpu_in r) m x.image k ready o in
      call_plays x r k six now.image.size p _ (begins x.script (start_of r x) k p.script now)
      (λ t l sixteen there. history xs t.state t.image l sixteen there)

  -- from the first call on, which begins with a reset
  from_reset : Safe m₀ c map
  from_reset r a x xs first = λ o p.
      let k : Stacked = record { pushed = 0; pulled = 0 } in
      let image = others_image m₀ c map ad m₀ x.image ad.size (λ q h. refl) o in
      call_plays x r k (sixteen c r a) image.size p _ (resets x.script (start_of r x) k p.script first (register_bytes c r a) image)
      (λ t l sixteen there. history xs t.state t.image l sixteen there)

-- a step by itself is the one step of the call that has its lines and pins
alone : (r m : List ℕ) (lines pins : ℕ) (buffer : List ℕ) →
    step_at images lines pins (start r m buffer) ≡ step images r m lines pins buffer
alone r m lines pins buffer = refl

pub demand3 : Demand3
demand3 m c map e = from_reset m c map (admitted m c map e)
