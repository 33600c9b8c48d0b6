-- A well-formed record read and written again is the same sixteen bytes, and a state written and read again is the same state. Every
-- state that a step writes is well formed.
use Prim.Native.Nat.{ℕ, zero, suc, ◌+◌, ◌/◌, ◌%◌, ◌<◌, ◌≤◌}
use native.Mathlib.Omega.{arith}
use mathlib.Core.Path.{◌≡◌, refl, sym, ap, ◌∙◌}
use mathlib.Core.Bool.{Bool, true, false, not, ◌&&◌, ◌||◌, false≢true}
use mathlib.Core.List.{List, [], ◌∷◌}
use borrow.Author.Tests.{eqb-true, leb-true, le-leb, eq-eqb}
use lib.Dec.{eqb, leb, ltb}
use lib.ListN.{length, drop}
use lib.Seq.{drop-cons, drop-length}
use Rattle.rules.specs.declared.Flags.{Flags}
use Rattle.rules.specs.declared.State.{State}
use Rattle.rules.specs.declared.Bus.{Bus}
use Rattle.rules.specs.Basics.{when◌then◌else◌, all, bit, at, address}
use Rattle.rules.specs.Cycles.{Bank, execution, indirect, Access}
use Rattle.rules.specs.Flags.{byte_of, flags_of}
use Rattle.rules.specs.declared.Event.{Event}
use Rattle.rules.specs.declared.Event.TheVariants.{Res, Nmi, Irq, Execute}
use Rattle.rules.specs.Interrupts.{nmi_of, cycles_of}
use Rattle.rules.specs.Bus.{is6502, is6508, is6509, Memory, World, world, narrow, first, second, of_image, cell_of, image_at, selected}
use Rattle.rules.specs.Bus.{kept}
use Rattle.rules.specs.Bus.{stored, is_protected, reset_bus, board}
use Rattle.rules.specs.Record.{long, state_of, record_of, well_formed, part_fits, flags_fit, register_fits, level_fits, pages_fit}
use Rattle.rules.specs.Step.{lines_fit, bus_at, ran_of}
use Rattle.laws.proofs.Tests.{and_left, and_right, six, all_at, if_case}
use Rattle.laws.proofs.Cycles.{run_keeps, Each, run_lists}

-- what a well-formed record says
pub record Formed (r : List ℕ) : Type 0 where
  pub part : part_fits (at r 0) ≡ true
  pub flags : flags_fit (at r 5) ≡ true
  pub first : register_fits (at r 0) (at r 8) ≡ true
  pub second : register_fits (at r 0) (at r 9) ≡ true
  pub level : level_fits (at r 0) (at r 10) ≡ true
  pub pages : pages_fit (at r 0) (at r 11) ≡ true

pub formed : (r : List ℕ) → well_formed r ≡ true → Formed r
unfolding well_formed
formed r h =
    let q = six _ _ _ _ _ _ h in
    record { part = q.0; flags = q.1; first = q.2; second = q.3; level = q.4; pages = q.5 }

pub well_formed_lem : (r : List ℕ) → Formed r → well_formed r ≡ true
unfolding well_formed
well_formed_lem r f = rw (f.part, f.flags, f.first, f.second, f.level, f.pages)

-- P: a byte with bit 5 set and 4 clear

flags_test : ℕ → Bool
flags_test p = not (flags_fit p) || eqb (byte_of (flags_of p)) p

flags_all : all 256 flags_test ≡ true
unfolding flags_test
flags_all = refl

pub flags_back : (p : ℕ) → p < 256 → flags_fit p ≡ true → byte_of (flags_of p) ≡ p
unfolding flags_test
flags_back p h e = eqb-true _ _ (rw e at (all_at 256 flags_test flags_all p h))

bit_back : (v : ℕ) → v ≤ 1 → bit (eqb v 1) ≡ v
bit_back zero h = refl
bit_back (suc zero) h = refl
bit_back (suc (suc v)) h = absurd (omega arith)

level_most : (part v : ℕ) → level_fits part v ≡ true → v ≤ 1
level_most part v h = go (is6508 part) h
  where
    go : (b : Bool) → (when b then eqb v 0 else leb v 1) ≡ true → v ≤ 1
    go true h = omega (arith, eqb-true v 0 h)
    go false h = leb-true v 1 h

-- a list by its elements
abbrev elements : List ℕ → ℕ → ℕ → List ℕ
elements r zero i = []
elements r (suc n) i = at r i ∷ elements r n (suc i)

elements_are : (r : List ℕ) (n i : ℕ) → length r ≡ i + n → elements r n i ≡ drop i r
elements_are r zero i h = let e : i ≡ length r = omega arith in rw (e, drop-length r)
elements_are r (suc n) i h = ap (λ (l : List ℕ). at r i ∷ l) (elements_are r n (suc i) (omega arith)) ∙ sym (drop-cons r i 0 (omega arith))

-- the bytes of a number, back
pair_back : (l h : ℕ) → l < 256 → (address l h % 256 ≡ l) × (address l h / 256 ≡ h)
pair_back l h p = (omega arith, omega arith)

long_back : (a b c d : ℕ) → a < 256 → b < 256 → c < 256 →
    (long a b c d % 256 ≡ a) × (long a b c d / 256 % 256 ≡ b) × (long a b c d / 65536 % 256 ≡ c) × (long a b c d / 16777216 ≡ d)
long_back a b c d p q r = (omega arith, omega arith, omega arith, omega arith)

-- a state record read and written again is the same sixteen bytes
pub written_again : (r : List ℕ) (pins banks : ℕ) → length r ≡ 16 → ((k : ℕ) → at r k < 256) → well_formed r ≡ true →
    record_of (state_of r pins banks) ≡ r
unfolding record_of state_of
written_again r pins banks n b w =
    let f = formed r w in
    let pc = pair_back (at r 6) (at r 7) (b 6) in
    let t = long_back (at r 12) (at r 13) (at r 14) (at r 15) (b 12) (b 13) (b 14) in
    let level = bit_back (at r 10) (level_most (at r 0) (at r 10) f.level) in
    rw (flags_back (at r 5) (b 5) f.flags, pc.0, pc.1, level, t.0, t.1, t.2, t.3) (elements_are r 16 0 n)

bit_is : (b : Bool) (n : ℕ) → n ≡ bit b → eqb n 1 ≡ b
bit_is true n e = rw e
bit_is false n e = rw e

pub bit_most : (b : Bool) → bit b ≤ 1
bit_most true = omega arith
bit_most false = omega arith

-- what P holds of the flags f, from bit 7 down
record Bits (f : Flags) (p : ℕ) : Type 0 where
  n : p / 128 % 2 ≡ bit f.n
  v : p / 64 % 2 ≡ bit f.v
  fixed : p / 16 % 4 ≡ 2
  d : p / 8 % 2 ≡ bit f.d
  i : p / 4 % 2 ≡ bit f.i
  z : p / 2 % 2 ≡ bit f.z
  c : p / 1 % 2 ≡ bit f.c

bits : (f : Flags) → Bits f (byte_of f)
bits f =
    let n = bit_most f.n in
    let v = bit_most f.v in
    let d = bit_most f.d in
    let i = bit_most f.i in
    let z = bit_most f.z in
    let c = bit_most f.c in
    record { n = omega arith; v = omega arith; fixed = omega arith; d = omega arith; i = omega arith; z = omega arith; c = omega arith }

pub flags_again : (f : Flags) → flags_of (byte_of f) ≡ f
flags_again f =
    let b = bits f in
    rw (
      bit_is f.n _ b.n,
      bit_is f.v _ b.v,
      bit_is f.d _ b.d,
      bit_is f.i _ b.i,
      bit_is f.z _ b.z,
      bit_is f.c _ b.c,
    )

pub read_again : (u : State) → state_of (record_of u) u.bus.pins u.bus.banks ≡ u
unfolding record_of state_of
read_again u =
    let pc : address (u.cpu.pc % 256) (u.cpu.pc / 256) ≡ u.cpu.pc = omega arith in
    let t = u.cycles in
    let cycles : long (t % 256) (t / 256 % 256) (t / 65536 % 256) (t / 16777216) ≡ t = omega arith in
    rw (flags_again u.cpu.p, pc, bit_is u.nmi (bit u.nmi) refl, cycles)

-- A bus of part k with c protected pages, whose registers fit: every access keeps it so.
pub record Fit (k c : ℕ) (b : Bus) : Type 0 where
  pub part : b.part ≡ k
  pub protected : b.protected ≡ c
  pub first : register_fits k b.first ≡ true
  pub second : register_fits k b.second ≡ true

narrow_fits : (k v : ℕ) → (is6508 k || is6509 k) ≡ true → register_fits k (narrow k v) ≡ true
narrow_fits k v h = go (is6509 k) refl (is6508 k) refl h
  where
    go : (a : Bool) → is6509 k ≡ a → (b : Bool) → is6508 k ≡ b → (b || a) ≡ true → register_fits k (narrow k v) ≡ true
    go true e b d h = rw (eqb-true k 9 e) (le-leb (narrow 9 v) 15 (omega arith))
    go false e true d h = rw (eqb-true k 8 d)
    go false e false d h = absurd (false≢true h)

reset_fits : (k : ℕ) → register_fits k (when is6509 k then 15 else 0) ≡ true
reset_fits k = go (is6509 k) refl (is6502 k) refl
  where
    go : (a : Bool) → is6509 k ≡ a → (b : Bool) → is6502 k ≡ b →
        (when b then eqb (when a then 15 else 0) 0 else when a then leb (when a then 15 else 0) 15 else true) ≡ true
    go true e true d = absurd (omega (arith, eqb-true k 9 e, eqb-true k 2 d))
    go true e false d = refl
    go false e true d = refl
    go false e false d = refl

module _ {M : Type 0} (memory : Memory M) (k c : ℕ) where
  kept_fit : (w : World M) (n : Bank) (p v : ℕ) → Fit k c w.bus → Fit k c (kept memory w (cell_of w.bus n p) v).bus
  unfolding cell_of
  kept_fit w n p v f = go (is6508 w.bus.part || is6509 w.bus.part) refl (eqb p 0) (eqb p 1)
    where
      fits : (is6508 w.bus.part || is6509 w.bus.part) ≡ true → register_fits k (narrow w.bus.part v) ≡ true
      fits h = rw f.part (narrow_fits k v (rw f.part at h))

      go : (h : Bool) → (is6508 w.bus.part || is6509 w.bus.part) ≡ h → (a b : Bool) →
          Fit k c
          (kept memory w (when h then when a then first else when b then second else of_image (image_at w.bus n p) else of_image
          (image_at w.bus n p)) v).bus
      go true e true b = record { part = f.part; protected = f.protected; first = fits e; second = f.second }
      go true e false true = record { part = f.part; protected = f.protected; first = f.first; second = fits e }
      go true e false false = f
      go false e a b = f

  stored_fit : (w : World M) (n : Bank) (p v : ℕ) → Fit k c w.bus → Fit k c (stored memory w n p v).bus
  unfolding stored
  stored_fit w n p v f = if_case (λ (u : World M). Fit k c u.bus) (is_protected w.bus.protected p) _ _ (λ h. f)
      (λ h. kept_fit w n p v f)

  bus_fit : (e : Event) (b : Bus) → Fit k c b → Fit k c (bus_at e b)
  unfolding reset_bus
  bus_fit Res b f =
      let v : register_fits k (when is6509 b.part then 15 else 0) ≡ true = rw f.part (reset_fits k) in
      record { part = f.part; protected = f.protected; first = v; second = v }
  bus_fit Nmi b f = f
  bus_fit Irq b f = f
  bus_fit Execute b f = f

  pub ran_fit : (e : Event) (u : State) (m : M) → Fit k c u.bus → Fit k c (ran_of memory e u m).after.bus
  ran_fit e u m f =
      run_keeps (board memory) (λ (w : World M). Fit k c w.bus) stored_fit (cycles_of e u.cpu) (world (bus_at e u.bus) m)
      (bus_fit e u.bus f)

  four_bits : (v : ℕ) → register_fits k v ≡ true → is6509 k ≡ true → v < 16
  four_bits v h e = go (is6502 k) h
    where
      go : (b : Bool) → (when b then eqb v 0 else when is6509 k then leb v 15 else true) ≡ true → v < 16
      go true q = omega (arith, eqb-true v 0 q)
      go false q = omega (arith, leb-true v 15 (rw e at q))

  selected_small : (w : World M) (n : Bank) → Fit k c w.bus → selected w.bus n < 16
  unfolding selected
  selected_small w n f = if_case (λ (v : ℕ). v < 16) (is6509 w.bus.part) _ _ (λ e. go n (rw f.part at e)) (λ e. omega arith)
    where
      go : (n : Bank) → is6509 k ≡ true → elim n [ execution ↦ w.bus.first | indirect ↦ w.bus.second ] < 16
      go execution e = four_bits w.bus.first f.first e
      go indirect e = four_bits w.bus.second f.second e

  -- "bank (one hexadecimal digit)": every bank that a step lists is one
  pub banks_shown : (e : Event) (u : State) (m : M) → Fit k c u.bus → Each (λ (a : Access). a.bank < 16) (ran_of memory e u m).list
  banks_shown e u m f =
      run_lists (board memory) (λ (w : World M). Fit k c w.bus) stored_fit (λ b. b < 16) selected_small
      (cycles_of e u.cpu) (world (bus_at e u.bus) m) (bus_fit e u.bus f)

-- the NMI level that a step stores
pub level_fits_lem : (k lines pins : ℕ) → lines_fit k lines pins ≡ true → level_fits k (bit (nmi_of lines)) ≡ true
level_fits_lem k lines pins h = go (is6508 k) (nmi_of lines) (and_right (ltb lines 8) _ (and_left _ (is6508 k || eqb pins 0) h))
  where
    go : (b n : Bool) → not (b && n) ≡ true → (when b then eqb (bit n) 0 else leb (bit n) 1) ≡ true
    go true true h = h
    go true false h = refl
    go false true h = refl
    go false false h = refl

-- every state that is written is well formed
pub state_formed : (u : State) (k c : ℕ) → Fit k c u.bus → part_fits k ≡ true → pages_fit k c ≡ true → level_fits k (bit u.nmi) ≡ true →
    well_formed (record_of u) ≡ true
unfolding record_of
state_formed u k c f part pages level =
    well_formed_lem (record_of u)
    (rw (f.part, f.protected)
    (record {
      part = part;
      flags = eq-eqb _ _ (bits u.cpu.p).fixed;
      first = f.first;
      second = f.second;
      level = level;
      pages =
          pages;
    }))
