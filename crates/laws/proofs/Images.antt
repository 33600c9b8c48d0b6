-- A step on a chart is the step on any image that holds the same bytes: what the examples compute is said of images.
use Prim.Native.Nat.{ℕ}
use native.Mathlib.Decide.{ℕ_discrete}
use mathlib.Core.Path.{◌≡◌, refl, ap, ◌∙◌}
use mathlib.Core.Bool.{Bool, true, false, ◌&&◌}
use mathlib.Core.List.{List}
use borrow.Author.Tests.{eq-eqb, ne_eqb, ltb-true, ltb-false}
use lib.Dec.{eqb, ltb}
use lib.ListN.{length, set, length-set}
use lib.Seq.{get_or-set_same, get_or-set_other, set_out}
use Rattle.std.specs.Prelude.{Result}
use Rattle.rules.specs.declared.Bus.{Bus}
use Rattle.rules.specs.declared.Cpu.{Cpu}
use Rattle.rules.specs.declared.State.{State}
use Rattle.rules.specs.declared.Refusal.{Refusal}
use Rattle.rules.specs.Basics.{when◌then◌else◌, at}
use Rattle.rules.specs.Cycles.{Bank, execution, Ran}
use Rattle.rules.specs.Opcodes.{decode, is_defined}
use Rattle.rules.specs.declared.Event.{Event}
use Rattle.rules.specs.declared.Event.TheVariants.{Res, Nmi, Irq, Execute}
use Rattle.rules.specs.Interrupts.{cycles_of}
use Rattle.rules.specs.Bus.{is6508, selected, port, narrow, with_registers, is_protected, Cell, first, second, of_image, cell_of, images}
use Rattle.rules.specs.Bus.{Chart, poked, charts, World, world, held, kept, look, stored, board}
use Rattle.rules.specs.Step.{Outcome, bus_at, ran_of, finished, opcode_of, can_step, state_now, event_now, refused, step_tests, step}
use Rattle.laws.proofs.Tests.{if_both, tested_both}
use Rattle.laws.proofs.Cycles.{Alike, Ended, run_alike}

-- a list holds what a chart says
pub record Holds (l : List ℕ) (f : Chart) : Type 0 where
  pub size : length l ≡ f.size
  pub bytes : (j : ℕ) → at l j ≡ f.byte_at j

holds_poke : (l : List ℕ) (f : Chart) → Holds l f → (i v : ℕ) → Holds (set l i v) (poked f i v)
holds_poke l f h i v = record { size = length-set l i v ∙ h.size; bytes = λ j. go j (ℕ_discrete j i) (ltb i f.size) refl }
  where
    go : (j : ℕ) → Dec (j ≡ i) → (b : Bool) → ltb i f.size ≡ b →
        at (set l i v) j ≡ (when eqb j i && ltb i f.size then v else f.byte_at j)
    go j (yes e) true q = rw (e, eq-eqb i i refl, q) (get_or-set_same l i v 0 (rw h.size (ltb-true i f.size q)))
    go j (yes e) false q = rw (e, eq-eqb i i refl, q, set_out l i v (rw h.size (ltb-false i f.size q))) (h.bytes i)
    go j (no d) b q = rw (ne_eqb j i d) (get_or-set_other l i j v 0 d ∙ h.bytes j)

pub record Shown (v : World (List ℕ)) (w : World Chart) : Type 0 where
  pub bus : v.bus ≡ w.bus
  pub image : Holds v.image w.image

held_shown : (v : World (List ℕ)) (w : World Chart) → Shown v w → (c : Cell) → held images v c ≡ held charts w c
held_shown v w s first = ap (λ (b : Bus). b.first) s.bus
held_shown v w s second = ap (λ (b : Bus). when is6508 b.part then port b else b.second) s.bus
held_shown v w s (of_image n) = s.image.bytes n

look_shown : (v : World (List ℕ)) (w : World Chart) → Shown v w → (k : Bank) (p : ℕ) → look images v k p ≡ look charts w k p
unfolding look
look_shown v w s k p = ap (λ (b : Bus). held images v (cell_of b k p)) s.bus ∙ held_shown v w s (cell_of w.bus k p)

kept_shown : (v : World (List ℕ)) (w : World Chart) → Shown v w → (c : Cell) (x : ℕ) → Shown (kept images v c x) (kept charts w c x)
kept_shown v w s first x = record { bus = ap (λ (b : Bus). with_registers (narrow b.part x) b.second b) s.bus; image = s.image }
kept_shown v w s second x = record { bus = ap (λ (b : Bus). with_registers b.first (narrow b.part x) b) s.bus; image = s.image }
kept_shown v w s (of_image n) x = record { bus = s.bus; image = holds_poke v.image w.image s.image n x }

stored_shown : (v : World (List ℕ)) (w : World Chart) → Shown v w → (k : Bank) (p x : ℕ) →
    Shown (stored images v k p x) (stored charts w k p x)
unfolding stored
stored_shown v w s k p x =
    rw (ap (λ (b : Bus). is_protected b.protected p) s.bus, ap (λ (b : Bus). cell_of b k p) s.bus)
    (if_both Shown (is_protected w.bus.protected p) _ _ _ _ s (kept_shown v w s (cell_of w.bus k p) x))

boards_alike : Alike (board images) (board charts) Shown
boards_alike = record { bank = λ v w s k. ap (λ (b : Bus). selected b k) s.bus; look = look_shown; stored = stored_shown }

module _ (m : List ℕ) (f : Chart) (h : Holds m f) where
  ran_alike : (e : Event) (u : State) → Ended Shown (ran_of images e u m) (ran_of charts e u f)
  ran_alike e u =
      run_alike boards_alike (cycles_of e u.cpu) (world (bus_at e u.bus) m) (world (bus_at e u.bus) f)
      (record { bus = refl; image = h })

  opcode_same : (u : State) → opcode_of images u m ≡ opcode_of charts u f
  opcode_same u = look_shown (world u.bus m) (world u.bus f) (record { bus = refl; image = h }) execution u.cpu.pc

  can_same : (e : Event) (u : State) → can_step images e u m ≡ can_step charts e u f
  can_same Res u = refl
  can_same Nmi u = refl
  can_same Irq u = refl
  can_same Execute u = ap (λ (op : ℕ). is_defined (decode op)) (opcode_same u)

pub record SameStep (x : Outcome (Result ℕ Refusal) (List ℕ)) (y : Outcome (Result ℕ Refusal) Chart) : Type 0 where
  pub answer : x.answer ≡ y.answer
  pub state : x.state ≡ y.state
  pub image : Holds x.image y.image
  pub accesses : x.accesses ≡ y.accesses

finished_same : (lines : ℕ) (u : State) (buffer : List ℕ) (x : Ran (World (List ℕ)) Cpu) (y : Ran (World Chart) Cpu) → Ended Shown x y →
    SameStep (finished lines u x buffer) (finished lines u y buffer)
unfolding finished
finished_same lines u buffer x y e =
    record {
      answer = rw e.list;
      state = cc;
      image = e.after.image;
      accesses = rw e.list;
    }

pub step_same : (r m : List ℕ) (f : Chart) (lines pins : ℕ) (buffer : List ℕ) → Holds m f →
    SameStep (step images r m lines pins buffer) (step charts r f lines pins buffer)
unfolding step
step_same r m f lines pins buffer h =
    let u = state_now charts r f pins in
    let e = event_now charts r f lines pins in
    rw (h.size, can_same m f h e u, opcode_same m f h u)
    (tested_both SameStep (step_tests charts r f lines pins buffer) (refused r m buffer) (refused r f buffer) _ _
    (λ d. record { answer = refl; state = refl; image = h; accesses = refl })
    (finished_same lines u buffer _ _ (ran_alike m f h e u)))
