-- What a write leaves, by the part.
use Prim.Native.Nat.{ℕ, zero, suc, ◌+◌, ◌-◌, ◌*◌, ◌/◌, ◌≤◌, ◌<◌}
use native.Mathlib.Omega.{arith}
use native.Mathlib.Decide.{dec_le}
use mathlib.Core.Path.{◌≡◌, refl, sym, ap, ◌∙◌}
use mathlib.Core.Bool.{true, false}
use mathlib.Core.List.{List}
use borrow.Author.Tests.{lt-ltb, le-ltb, le-leb, lt-leb}
use lib.Dec.{eqb}
use lib.Seq.{sets}
use Rattle.rules.specs.declared.Bus.{Bus}
use Rattle.rules.specs.declared.State.{State}
use Rattle.rules.specs.declared.Purpose.{Purpose}
use Rattle.rules.specs.Basics.{when◌then◌else◌}
use Rattle.rules.specs.Cycles.{Bank}
use Rattle.rules.specs.Bus.{World, world, images, first, second, kept, is_protected, stored, bytes_of}
use Rattle.rules.specs.Record.{record_of}
use Rattle.laws.specs.Goes.{access, bus_after, Writes}
use Rattle.laws.specs.States.{moved}
use Rattle.laws.proofs.Goes.{writes}
use Rattle.wiring.specs.declared.bank.Wiring.{Wiring}
use Rattle.wiring.specs.Wiring.{Wired, Stands}
use Rattle.wiring.proofs.Cells.{cell_byte, below, cell_register}
use Rattle.writes.specs.Left.{registered, put_at}

-- "judged by the address on the bus"
open_page : (c p : ℕ) → p / 256 + c < 256 → is_protected c p ≡ false
open_page c p l = lt-leb (256 - c) (p / 256) (omega arith)

shut_page : (c p : ℕ) → 256 ≤ p / 256 + c → is_protected c p ≡ true
shut_page c p l = le-leb (256 - c) (p / 256) (omega arith)

pub store_byte : {κ : Bank} {w : Wiring} {u : Bus} (i : List ℕ) (p v : ℕ) → Wired κ w u → (p < 2 → w.plain ≡ 0) →
    stored images (world u i) κ p v ≡ world u (put_at u.protected w i p v)
unfolding stored
store_byte {κ} {w} {u} i p v q h = go (dec_le (suc (p / 256 + c)) 256)
  where
    c : ℕ
    c = u.protected

    go : Dec (p / 256 + c < 256) → stored images (world u i) κ p v ≡ world u (put_at c w i p v)
    go (yes y) =
        rw (open_page c p y, lt-ltb (p / 256 + c) 256 y, q.plain, q.base) (rw (cell_byte κ u p q.sound.part (rw q.plain at h)))
    go (no g) = rw (shut_page c p (omega (arith, g)), le-ltb (p / 256 + c) 256 (omega (arith, g)))

pub store_register : {κ : Bank} {w : Wiring} {u : Bus} (i : List ℕ) (p v : ℕ) → Wired κ w u → p < 2 → 0 < w.plain →
    stored images (world u i) κ p v ≡ world (registered u p v) i
unfolding stored
store_register {κ} {w} {u} i p v q h some =
    rw (open_page u.protected p (omega (arith, q.sound.pages)), cell_register κ u p q.sound.part h (rw q.plain at some))
    (low_kept u i p v h)
  where
    low_kept : (u : Bus) (i : List ℕ) (p v : ℕ) → p < 2 →
        kept images (world u i) (when eqb p 0 then first else second) v ≡ world (registered u p v) i
    low_kept u i zero v h = refl
    low_kept u i (suc zero) v h = refl
    low_kept u i (suc (suc p)) v h = absurd (omega arith)

abbrev noted : Purpose → List ℕ → ℕ → ℕ → ℕ → ℕ → List ℕ
noted why l k p b v = sets l (8 * k) (bytes_of (access 1 why p b v))

wrote : {why : Purpose} {κ : Bank} {w : Wiring} {s : State} {r i l r' i' l' : List ℕ} (p v k : ℕ) (u : Bus) → Stands κ s r w →
    stored images (world s.bus i) κ p v ≡ world u i' → r' ≡ record_of (moved s.cpu u s) → l' ≡ noted why l k p w.bank v →
    Writes why κ p v k s i l r' i' l'
wrote {κ = κ} {w} {s} {i = i} {i' = i'} p v k u h a e d =
    let after : u ≡ bus_after κ p v s.bus i = sym (ap (λ (x : World (List ℕ)). x.bus) a) in
    record {
      bytes = e ∙ ap (λ (x : Bus). record_of (moved s.cpu x s)) after;
      goes = writes _ κ p v w.bank k s.bus _ i i' _ _ (a ∙ ap (λ (x : Bus). world x i') after) h.wired.bank d;
    }

pub write_register : {why : Purpose} {κ : Bank} {w : Wiring} {s : State} {r i l r' l' : List ℕ} (p v k : ℕ) → Stands κ s r w →
    p < 2 → p < w.plain → r' ≡ record_of (moved s.cpu (registered s.bus p v) s) → l' ≡ noted why l k p w.bank v →
    Writes why κ p v k s i l r' i l'
write_register {i = i} p v k h q some e d = wrote p v k _ h (store_register i p v h.wired q (omega arith)) e d

pub write_byte : {why : Purpose} {κ : Bank} {w : Wiring} {s : State} {r i l i' l' : List ℕ} (p v k : ℕ) → Stands κ s r w →
    (p < 2 → w.plain ≡ 0) → i' ≡ put_at s.bus.protected w i p v → l' ≡ noted why l k p w.bank v →
    Writes why κ p v k s i l r i' l'
write_byte {i = i} p v k h q e d = wrote p v k _ h (store_byte i p v h.wired q ∙ (rw e)) h.bytes d

pub plain_above : {κ : Bank} {w : Wiring} {s : State} {r : List ℕ} {p : ℕ} → Stands κ s r w → w.plain ≤ p → p < 2 → w.plain ≡ 0
plain_above h l q = h.wired.plain ∙ below h.wired.sound.part (rw h.wired.plain at l) q
