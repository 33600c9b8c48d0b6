-- The laws of a step.
use Prim.Native.Nat.{ℕ, ◌+◌, ◌*◌, ◌%◌, ◌<◌, ◌≤◌}
use native.Mathlib.Omega.{arith}
use mathlib.Core.Path.{◌≡◌, refl, ap, subst, ◌∙◌}
use mathlib.Core.Bool.{true}
use mathlib.Core.List.{List, [], ◌∷◌}
use borrow.Author.Tests.{leb-true}
use lib.ListN.{length, take, drop, length-append, length-drop}
use lib.Seq.{take_at, drop_at}
use Rattle.std.specs.Prelude.{Result, Ok, Err}
use Rattle.rules.specs.declared.State.{State}
use Rattle.rules.specs.declared.Refusal.{Refusal}
use Rattle.rules.specs.Basics.{at}
use Rattle.rules.specs.Cycles.{Access}
use Rattle.rules.specs.declared.Event.{Event}
use Rattle.rules.specs.Interrupts.{cycles_of}
use Rattle.rules.specs.Bus.{Memory, world, board, list_of}
use Rattle.rules.specs.Record.{cycles_in, state_of, record_of, well_formed}
use Rattle.rules.specs.Step.{Outcome, lines_fit, front, bus_at, ran_of, state_after, finished, can_step, state_now, event_now, refused}
use Rattle.rules.specs.Step.{step_tests, step}
use Rattle.laws.proofs.Tests.{Hold, tested_case}
use Rattle.laws.proofs.Cycles.{most_length}
use Rattle.laws.proofs.Lengths.{at_most_seven, two_least}
use Rattle.laws.proofs.Purposes.{Tells, purposes}
use Rattle.laws.proofs.Records.{formed, ran_fit, level_fits_lem, state_formed}

-- eight bytes an access
pub list_length : (l : List Access) → length (list_of l) ≡ 8 * length l
unfolding list_of
list_length [] = refl
list_length (a ∷ l) = omega (arith, list_length l)

pub front_length : (l b : List ℕ) → length l ≤ length b → length (front l b) ≡ length b
front_length l b h = simp (length-append, length-drop) (omega arith)

module _ {M : Type 0} (memory : Memory M) (r : List ℕ) (m : M) (lines pins : ℕ) (buffer : List ℕ) where
  abbrev u : State
  u = state_now memory r m pins

  abbrev e : Event
  e = event_now memory r m lines pins

  abbrev pub trace : List Access
  trace = (ran_of memory e u m).list

  -- what is left by a step that answered n
  pub record Done (o : Outcome (Result ℕ Refusal) M) (n : ℕ) : Type 0 where
    -- "answers its number of accesses": 2 to 7
    pub count : n ≡ length trace
    pub least : 2 ≤ n
    pub most : n ≤ 7
    -- "adds it to the record's count", "modulo 2^32"
    pub cycles : cycles_in o.state ≡ (cycles_in r + n) % 4294967296
    -- a well-formed record of the same part and protected pages
    pub record_size : length o.state ≡ 16
    pub record_formed : well_formed o.state ≡ true
    pub part : at o.state 0 ≡ at r 0
    pub pages : at o.state 11 ≡ at r 11
    -- "These fill the buffer's front; later bytes stay."
    pub room : 8 * n ≤ length buffer
    pub listed : take (8 * n) o.accesses ≡ list_of trace
    pub later : drop (8 * n) o.accesses ≡ drop (8 * n) buffer
    pub size : length o.accesses ≡ length buffer
    -- document 02, "What each access was for"; S is a byte in every record that C can hand over
    pub purposes : at r 4 < 256 → Tells e u.cpu trace

  pub record Lawful (o : Outcome (Result ℕ Refusal) M) : Type 0 where
    -- "no byte moves"
    pub stays : (d : Refusal) → o.answer ≡ Err d → o ≡ record { answer = Err d; state = r; image = m; accesses = buffer }
    pub moves : (n : ℕ) → o.answer ≡ Ok n → Done o n

  lawful_refused : (d : Refusal) → Lawful (refused r m buffer d)
  lawful_refused d =
      record {
        stays = λ d h. ap (refused r m buffer) (cc);
        moves = λ n h. let z : ◌≡◌ {A = ℕ} 0 1 = cc in absurd (omega arith);
      }

  finished_done : Hold (step_tests memory r m lines pins buffer) → Done (finished lines u (ran_of memory e u m) buffer) (length trace)
  unfolding finished state_of record_of
  finished_done h =
      let n = length trace in
      let ran = ran_of memory e u m in
      let size = list_length trace in
      let well : well_formed r ≡ true = search in
      let fit : lines_fit (at r 0) lines pins ≡ true = search in
      let can : can_step memory e u m ≡ true = search in
      let f = formed r well in
      let g = ran_fit memory (at r 0) (at r 11) e u m (record { part = refl; protected = refl; first = f.first; second = f.second }) in
      let seven = most_length (board memory) 7 (cycles_of e u.cpu) (world (bus_at e u.bus) m) (at_most_seven e u.cpu) in
      let space : 56 ≤ length buffer = omega (arith, leb-true) in
      record {
        count = refl;
        least = two_least memory e u m can;
        most = seven;
        cycles = omega arith;
        record_size = refl;
        record_formed = state_formed (state_after lines u ran) (at r 0) (at r 11) g f.part f.pages
            (level_fits_lem (at r 0) lines pins fit);
        part = g.part;
        pages = g.protected;
        room = omega arith;
        listed = take_at (list_of trace) _ (8 * n) size;
        later = drop_at (list_of trace) _ (8 * n) size ∙ ap (λ (i : ℕ). drop i buffer) size;
        size = front_length (list_of trace) buffer (omega arith);
        purposes = λ h. purposes memory e u m h;
      }

  lawful_finished : Hold (step_tests memory r m lines pins buffer) → Lawful (finished lines u (ran_of memory e u m) buffer)
  unfolding finished
  lawful_finished h =
      record {
        stays = λ d q. let z : ◌≡◌ {A = ℕ} 0 1 = cc in absurd (omega arith);
        moves = λ n q. subst (Done (finished lines u (ran_of memory e u m) buffer)) (cc) (finished_done h);
      }

  pub lawful : Lawful (step memory r m lines pins buffer)
  unfolding step
  lawful = tested_case Lawful (step_tests memory r m lines pins buffer) (refused r m buffer) _ lawful_refused λ h.
      lawful_finished h
