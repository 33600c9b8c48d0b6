-- The bytes on the stack while an admitted image runs, and how pushes, pulls, calls, returns and interrupts move them. Nothing here knows
-- the instruction set.
use Prim.Native.Nat.{ℕ, suc, ◌+◌, ◌-◌, ◌/◌, ◌%◌, ◌<◌, ◌≤◌}
use native.Mathlib.Omega.{arith}
use native.Mathlib.Decide.{dec_le}
use mathlib.Core.Path.{◌≡◌, refl, sym, ◌∙◌}
use mathlib.Core.Bool.{Bool, true, false, false≢true}
use mathlib.Core.List.{List, [], ◌∷◌, ◌++◌}
use lib.ListN.{length, set, length-append, length-set}
use lib.Seq.{get_or-set_same, get_or-set_other}
use Rattle.rules.specs.Basics.{when◌then◌else◌, at, address, sum8, sum16}
use Rattle.rules.specs.Operations.{stack, down}
use Rattle.admission_rules.specs.Admission.{mark_at, marks_in, main, routine, handler}
use Rattle.admission_rules.specs.Safety.{Stacked}

-- above S lie these bytes, the last pushed first
abbrev pub Holds : List ℕ → ℕ → List ℕ → Type 0
Holds m s [] = Unit {0}
Holds m s (v ∷ l) = (at m (stack (sum8 s 1)) ≡ v) × Holds m (sum8 s 1) l

-- two images with the same stack page
abbrev pub SamePage : List ℕ → List ℕ → Type 0
SamePage m m' = (p : ℕ) → p / 256 ≡ 1 → at m' p ≡ at m p

pub holds_same : (m m' : List ℕ) (s : ℕ) (l : List ℕ) → SamePage m m' → Holds m s l → Holds m' s l
holds_same m m' s [] h x = tt
holds_same m m' s (v ∷ l) h (e, x) = (h (stack (sum8 s 1)) (omega arith) ∙ e, holds_same m m' (sum8 s 1) l h x)

around : (s j : ℕ) → s < 256 → j < 255 → ((s + j) % 256 + 1) % 256 ≡ s → ⊥
around s j hs hj e = go (dec_le 256 (s + j + 1))
  where
    go : Dec (256 ≤ s + j + 1) → ⊥
    go (yes p) = omega arith
    go (no p) = omega arith

-- a byte written at S is none of the 255 above it
holds_set : (m : List ℕ) (s v j : ℕ) (l : List ℕ) → s < 256 → j + length l ≤ 255 → Holds m ((s + j) % 256) l →
    Holds (set m (stack s) v) ((s + j) % 256) l
holds_set m s v j [] hs n x = tt
holds_set m s v j (w ∷ l) hs n (e, x) =
    let on : sum8 ((s + j) % 256) 1 ≡ (s + suc j) % 256 = omega arith in (
      get_or-set_other m (stack s) (stack (sum8 ((s + j) % 256) 1)) v 0 (λ z. around s j hs (omega arith) (omega arith)) ∙ e,
      rw on (holds_set m s v (suc j) l hs (omega arith) (rw on at x)),
    )

pub holds_push : (m : List ℕ) (s v : ℕ) (l : List ℕ) → s < 256 → length l ≤ 255 → length m ≡ 65536 → Holds m s l →
    Holds (set m (stack s) v) (down 1 s) (v ∷ l)
holds_push m s v l hs n size x =
    let back : sum8 (down 1 s) 1 ≡ s = omega arith in
    let here : (s + 0) % 256 ≡ s = omega arith in
    rw back (get_or-set_same m (stack s) v 0 (omega arith), rw here at (holds_set m s v 0 l hs (omega arith) (rw here x)))

pub lower : (s k : ℕ) → s < 256 → k < 256 → down 1 (down k s) ≡ down (suc k) s
lower s k hs hk = omega arith

-- What lies below the routine that runs: whom it returns to, a mark of the map, with its return address as pushed and its own bytes.
pub data Frame : Type 0 where
  called : (i low high : ℕ) → List ℕ → Frame
  interrupted : (i p low high : ℕ) → List ℕ → Frame

abbrev pub bytes_of : List Frame → List ℕ
bytes_of [] = []
bytes_of (called i low high own ∷ fs) = low ∷ high ∷ own ++ bytes_of fs
bytes_of (interrupted i p low high own ∷ fs) = p ∷ low ∷ high ∷ own ++ bytes_of fs

-- the map marks p with this kind and height, and a need that with d more is at most e
pub record Leads (map : List ℕ) (p k h d e : ℕ) : Type 0 where
  pub i : ℕ
  pub within : i < marks_in map
  pub address : (mark_at map i).address ≡ p
  pub kind : (mark_at map i).kind ≡ k
  pub height : (mark_at map i).height ≡ h
  pub need : (mark_at map i).need + d ≤ e

module _ (map : List ℕ) (N : ℕ) where
  -- the most bytes there may be: N in the main program, 256 while a handler runs
  abbrev pub most : Bool → ℕ
  most busy = when busy then 256 else N

  -- mark i may go on with these bytes on the stack, of which the first are its own
  pub record Goes (i : ℕ) (own below : List ℕ) (busy : Bool) : Type 0 where
    pub within : i < marks_in map
    pub height : length own ≡ (mark_at map i).height
    pub room : length own + length below + (mark_at map i).need ≤ most busy

  -- the frames below a routine of this kind; busy says whether a handler runs
  abbrev pub Chain : ℕ → List Frame → Bool → Type 0
  Chain kind [] busy = (kind ≡ main) × (busy ≡ false)
  Chain kind (called i low high own ∷ fs) busy =
      (kind ≡ routine) × Goes i own (bytes_of fs) busy × (sum16 (address low high) 1 ≡ (mark_at map i).address) ×
      Chain (mark_at map i).kind fs busy
  Chain kind (interrupted i p low high own ∷ fs) busy =
      (kind ≡ handler) × (busy ≡ true) × Goes i own (bytes_of fs) false × (address low high ≡ (mark_at map i).address) ×
      Chain (mark_at map i).kind fs false

  -- Between two steps: PC stands at a mark, which has its height in bytes on the stack, and room for its need; I is set while a handler
  -- runs.
  pub record Stands (s : ℕ) (flag : Bool) (pc : ℕ) (m : List ℕ) (k : Stacked) : Type 0 where
    pub i : ℕ
    pub own : List ℕ
    pub frames : List Frame
    pub busy : Bool
    pub goes : Goes i own (bytes_of frames) busy
    pub address : (mark_at map i).address ≡ pc
    pub chain : Chain (mark_at map i).kind frames busy
    pub masked : busy ≡ true → flag ≡ true
    pub holds : Holds m s (own ++ bytes_of frames)
    pub counted : k.pushed ≡ k.pulled + length own + length (bytes_of frames)

  most_256 : N ≤ 253 → (busy : Bool) → most busy ≤ 256
  most_256 h true = omega arith
  most_256 h false = omega arith

  -- a reset, or TXS: nothing is on the stack
  pub starts : (s : ℕ) (flag : Bool) (pc : ℕ) (m : List ℕ) → Leads map pc main 0 0 N →
      Stands s flag pc m (record { pushed = 0; pulled = 0 })
  starts s flag pc m x =
      record {
        i = x.i;
        own = [];
        frames = [];
        busy = false;
        goes = record { within = x.within; height = sym x.height; room = omega (arith, x.need) };
        address = x.address;
        chain = (x.kind, refl);
        masked = λ h. absurd (false≢true h);
        holds = tt;
        counted = refl;
      }

  module _ (s : ℕ) (flag : Bool) (pc : ℕ) (m : List ℕ) (k : Stacked) (v : Stands s flag pc m k) where
    abbrev kind : ℕ
    kind = (mark_at map v.i).kind

    abbrev height : ℕ
    height = (mark_at map v.i).height

    abbrev need : ℕ
    need = (mark_at map v.i).need

    abbrev bytes : List ℕ
    bytes = v.own ++ bytes_of v.frames

    -- 0 to 256 bytes
    pub bounded : N ≤ 253 → (k.pulled ≤ k.pushed) × (k.pushed ≤ k.pulled + 256)
    bounded n = omega (arith, v.counted, v.goes.room, most_256 n v.busy)

    -- in the main program no handler runs, and its need is at most N
    pub alone : kind ≡ main → (v.busy ≡ false) × (need ≤ N)
    alone h = go v.frames v.busy v.goes v.chain
      where
        go : (fs : List Frame) (busy : Bool) → Goes v.i v.own (bytes_of fs) busy → Chain kind fs busy → (busy ≡ false) × (need ≤ N)
        go [] true g c = absurd (false≢true (sym c.1))
        go [] false g c = (refl, omega (arith, g.room))
        go (called i low high own ∷ fs) busy g c = absurd (omega (arith, c.0))
        go (interrupted i p low high own ∷ fs) busy g c = absurd (omega (arith, c.0))

    -- others alter what is not the stack page
    pub altered : (m' : List ℕ) → SamePage m m' → Stands s flag pc m' k
    altered m' same =
        record {
          i = v.i;
          own = v.own;
          frames = v.frames;
          busy = v.busy;
          goes = v.goes;
          address = v.address;
          chain = v.chain;
          masked = v.masked;
          holds = holds_same m m' s bytes same v.holds;
          counted = v.counted;
        }

    -- on in the same routine, the stack as it was
    pub stays : (flag' : Bool) (pc' : ℕ) (m' : List ℕ) → Leads map pc' kind height 0 need →
        (v.busy ≡ true → flag' ≡ true) →
        SamePage m m' → Stands s flag' pc' m' k
    stays flag' pc' m' x masked same =
        record {
          i = x.i;
          own = v.own;
          frames = v.frames;
          busy = v.busy;
          goes = record { within = x.within; height = v.goes.height ∙ sym x.height; room = omega (arith, v.goes.room, x.need) };
          address = x.address;
          chain = rw x.kind v.chain;
          masked = masked;
          holds = holds_same m m' s bytes same v.holds;
          counted = v.counted;
        }

    -- PHA, PHP
    pub pushes_one : N ≤ 253 → s < 256 → length m ≡ 65536 → (b pc' : ℕ) → Leads map pc' kind (height + 1) 1 need →
        Stands (down 1 s) flag pc' (set m (stack s) b) (record { pushed = k.pushed + 1; pulled = k.pulled })
    pushes_one n hs size b pc' x =
        let top = most_256 n v.busy in
        let space : length bytes ≤ 255 = omega (arith, length-append v.own (bytes_of v.frames), v.goes.room, x.need) in
        record {
          i = x.i;
          own = b ∷ v.own;
          frames = v.frames;
          busy = v.busy;
          goes =
              let g = v.goes in
              record { within = x.within; height = omega (arith, g.height, x.height); room = omega (arith, g.room, x.need) };
          address = x.address;
          chain = rw x.kind v.chain;
          masked = v.masked;
          holds = holds_push m s b bytes hs space size v.holds;
          counted = omega (arith, v.counted);
        }

    -- PLA
    pub pulls_one : (pc' : ℕ) → 1 ≤ height → Leads map pc' kind (height - 1) 0 (need + 1) →
        Stands (sum8 s 1) flag pc' m (record { pushed = k.pushed; pulled = k.pulled + 1 })
    pulls_one pc' h x = go v.own v.goes v.holds v.counted
      where
        go : (own : List ℕ) → Goes v.i own (bytes_of v.frames) v.busy → Holds m s (own ++ bytes_of v.frames) →
            k.pushed ≡ k.pulled + length own + length (bytes_of v.frames) →
            Stands (sum8 s 1) flag pc' m (record { pushed = k.pushed; pulled = k.pulled + 1 })
        go [] g z n = absurd (omega (arith, g.height))
        go (b ∷ own) g z n =
            record {
              i = x.i;
              own = own;
              frames = v.frames;
              busy = v.busy;
              goes = record { within = x.within; height = omega (arith, g.height, x.height); room = omega (arith, g.room, x.need) };
              address = x.address;
              chain = rw x.kind v.chain;
              masked = v.masked;
              holds = z.1;
              counted = omega arith;
            }

    -- JSR
    pub calls : N ≤ 253 → s < 256 → length m ≡ 65536 → (low high back to : ℕ) → sum16 (address low high) 1 ≡ back →
        Leads map back kind height 0 need → Leads map to routine 0 2 need →
        Stands (down 2 s) flag to (set (set m (stack s) high) (stack (down 1 s)) low)
        (record { pushed = k.pushed + 2; pulled = k.pulled })
    calls n hs size low high back to e x y =
        let top = most_256 n v.busy in
        let whole = length-append v.own (bytes_of v.frames) in
        let space : length bytes ≤ 254 = omega (arith, v.goes.room, y.need) in
        record {
          i = y.i;
          own = [];
          frames = called x.i low high v.own ∷ v.frames;
          busy = v.busy;
          goes = record { within = y.within; height = sym y.height; room = omega (arith, v.goes.room, y.need) };
          address = y.address;
          chain = (
            y.kind,
            record { within = x.within; height = v.goes.height ∙ sym x.height; room = omega (arith, v.goes.room, x.need) },
            e ∙ sym x.address,
            rw x.kind v.chain,
          );
          masked = v.masked;
          holds =
              rw (lower s 1 hs (omega arith)) at
              (holds_push (set m (stack s) high) (down 1 s) low (high ∷ bytes) (omega arith) (omega arith)
              (length-set m (stack s) high ∙ size) (holds_push m s high bytes hs (omega arith) size v.holds));
          counted = omega (arith, v.counted);
        }

    -- where d bytes are pulled
    abbrev After : ℕ → Bool → ℕ → Type 0
    After d flag' pc' = Stands (sum8 s d) flag' pc' m (record { pushed = k.pushed; pulled = k.pulled + d })

    -- they were a frame's, and its mark goes on with its own
    goes_on : (d : ℕ) {flag' : Bool} {pc' i : ℕ} (own : List ℕ) (fs : List Frame) {busy : Bool} →
        Goes i own (bytes_of fs) busy →
        (mark_at map i).address ≡ pc' → Chain (mark_at map i).kind fs busy → (busy ≡ true → flag' ≡ true) →
        Holds m (sum8 s d) (own ++ bytes_of fs) → k.pushed ≡ k.pulled + (d + length (own ++ bytes_of fs)) → After d flag' pc'
    goes_on d {i = i} own fs {busy = busy} goes address chain masked holds n =
        record {
          i = i;
          own = own;
          frames = fs;
          busy = busy;
          goes = goes;
          address = address;
          chain = chain;
          masked = masked;
          holds = holds;
          counted = omega (arith, length-append own (bytes_of fs));
        }

    -- A if own and fs are what is on the stack
    abbrev Above : List ℕ → List Frame → Type 0 → Type 0
    Above own fs A =
        Goes v.i own (bytes_of fs) v.busy → Chain kind fs v.busy → Holds m s (own ++ bytes_of fs) →
        k.pushed ≡ k.pulled + length own + length (bytes_of fs) → A

    -- the j-th byte that is pulled
    abbrev byte_at : ℕ → ℕ
    byte_at j = at m (stack (sum8 s j))

    -- RTS
    pub returns : kind ≡ routine → height ≡ 0 → After 2 flag (sum16 (address (byte_at 1) (byte_at 2)) 1)
    returns hk hh = go v.own v.frames v.goes v.chain v.holds v.counted
      where
        go : (own : List ℕ) (fs : List Frame) → Above own fs (After 2 flag (sum16 (address (byte_at 1) (byte_at 2)) 1))
        go (b ∷ own) fs g c z n = absurd (omega (arith, g.height))
        go [] [] g c z n = absurd (omega (arith, c.0))
        go [] (interrupted i p low high own ∷ fs) g c z n = absurd (omega (arith, c.0))
        go [] (called i low high own ∷ fs) g (hk, on, back, c) z n =
            let two : sum8 (sum8 s 1) 1 ≡ sum8 s 2 = omega arith in
            let y = rw two at z in
            goes_on 2 own fs on (rw (y.0, y.1.0) (sym back)) c v.masked y.1.1 (omega arith)

    -- RTI: whatever P was pulled, no handler runs any more
    pub goes_back : (flag' : Bool) → kind ≡ handler → height ≡ 0 → After 3 flag' (address (byte_at 2) (byte_at 3))
    goes_back flag' hk hh = go v.own v.frames v.goes v.chain v.holds v.counted
      where
        go : (own : List ℕ) (fs : List Frame) → Above own fs (After 3 flag' (address (byte_at 2) (byte_at 3)))
        go (b ∷ own) fs g c z n = absurd (omega (arith, g.height))
        go [] [] g c z n = absurd (omega (arith, c.0))
        go [] (called i low high own ∷ fs) g c z n = absurd (omega (arith, c.0))
        go [] (interrupted i p low high own ∷ fs) g (hk, hb, on, back, c) z n =
            let two : sum8 (sum8 s 1) 1 ≡ sum8 s 2 = omega arith in
            let three : sum8 (sum8 s 2) 1 ≡ sum8 s 3 = omega arith in
            let y = rw three at (rw two at z) in
            goes_on 3 own fs on (rw (y.1.0, y.1.1.0) (sym back)) c (λ h. absurd (false≢true h)) y.1.1.1 (omega arith)

    -- IRQ: it is taken only where no handler runs
    pub interrupts : flag ≡ false → s < 256 → length m ≡ 65536 → (p low high to H : ℕ) → address low high ≡ pc →
        N + H + 3 ≤ 256 →
        Leads map to handler 0 0 H →
        Stands (down 3 s) true to (set (set (set m (stack s) high) (stack (down 1 s)) low) (stack (down 2 s)) p)
        (record { pushed = k.pushed + 3; pulled = k.pulled })
    interrupts clear hs size p low high to H e n y = go v.busy v.masked v.goes v.chain
      where
        go : (busy : Bool) → (busy ≡ true → flag ≡ true) → Goes v.i v.own (bytes_of v.frames) busy → Chain kind v.frames busy →
            Stands (down 3 s) true to (set (set (set m (stack s) high) (stack (down 1 s)) low) (stack (down 2 s)) p)
            (record { pushed = k.pushed + 3; pulled = k.pulled })
        go true masked g c = absurd (false≢true (sym clear ∙ masked refl))
        go false masked g c =
            let whole = length-append v.own (bytes_of v.frames) in
            let space : length bytes ≤ 253 = omega (arith, g.room) in
            let m₁ = set m (stack s) high in
            let m₂ = set m₁ (stack (down 1 s)) low in
            let size₁ = length-set m (stack s) high ∙ size in
            let size₂ = length-set m₁ (stack (down 1 s)) low ∙ size₁ in
            record {
              i = y.i;
              own = [];
              frames = interrupted v.i p low high v.own ∷ v.frames;
              busy = true;
              goes = record { within = y.within; height = sym y.height; room = omega (arith, g.room, y.need) };
              address = y.address;
              chain = (y.kind, refl, g, e ∙ sym v.address, c);
              masked = λ h. refl;
              holds =
                  rw (lower s 2 hs (omega arith)) at
                  (holds_push m₂ (down 2 s) p (low ∷ high ∷ bytes) (omega arith) (omega arith) size₂
                  (rw (lower s 1 hs (omega arith)) at
                  (holds_push m₁ (down 1 s) low (high ∷ bytes) (omega arith) (omega arith) size₁
                  (holds_push m s high bytes hs (omega arith) size v.holds))));
              counted = omega (arith, v.counted);
            }
