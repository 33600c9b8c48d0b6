-- "So a cut at any byte of an append finds the record that was last completely written, or gives 8 if there is none."
use Prim.Native.Nat.{ℕ, zero, suc, ◌+◌, ◌-◌, ◌*◌, ◌/◌, ◌%◌, ◌<◌, ◌≤◌}
use native.Mathlib.Omega.{arith}
use native.Mathlib.Nat.{suc-add}
use mathlib.Core.Path.{◌≡◌, refl, ap, sym, ◌∙◌}
use mathlib.Core.Bool.{Bool, true, false}
use mathlib.Core.Logic.{◌⊎◌, inl, inr, ⊎_elim}
use mathlib.Core.List.Memᴰ
use mathlib.Core.List.{List, [], ◌∷◌, ◌++◌, Memᴰ}
use borrow.Author.Tests.{le-leb, lt-leb, leb-true}
use lib.ListN.{length, take, drop, length-append, length-take, length-drop}
use lib.Seq.{length-take-le, drop_at, drop-nil, take_all, take_at, take-nil, take-take}
use Rattle.std.specs.Prelude.{Result, Ok, Err}
use Rattle.rules.specs.declared.Refusal.{Refusal}
use Rattle.rules.specs.declared.Refusal.TheVariants.{Malformed, FileLength}
use Rattle.rules.specs.declared.Found.{Found}
use Rattle.rules.specs.Basics.{when◌then◌else◌}
use Rattle.rules.specs.Record.{well_formed}
use Rattle.rules.specs.Restart.{whole_of, last_of, record_at, standing, restart_tests, restart, append_tests, append_at, Grown, empty, done}
use Rattle.rules.specs.Restart.{cut, lost}
use Rattle.laws.proofs.Tests.{tested_case}

-- where an append goes, and that it fits
append_place : (n p : ℕ) → append_at n ≡ Ok p → (p ≡ whole_of n) × (p + 16 ≤ 65536)
unfolding append_at
append_place n p =
    tested_case (λ (a : Result ℕ Refusal). a ≡ Ok p → (p ≡ whole_of n) × (p + 16 ≤ 65536)) (append_tests n) Err _
    (λ d h. let z : ◌≡◌ {A = ℕ} 0 1 = cc in absurd (omega arith))
    (λ hs h. let e : p ≡ whole_of n = cc in (e, omega (arith, leb-true)))

-- where the reader finds a record, and the tail behind it
pub found_place : (file : List ℕ) (f : Found) → restart file ≡ Ok f → (f.at ≡ last_of (length file)) × (f.tail ≡ length file % 16)
unfolding restart
found_place file f =
    tested_case (λ (a : Result Found Refusal). a ≡ Ok f → (f.at ≡ last_of (length file)) × (f.tail ≡ length file % 16))
    (restart_tests file) Err _
    (λ d h. let z : ◌≡◌ {A = ℕ} 0 1 = cc in absurd (omega arith))
    (λ hs h. (cc, cc))

-- each of these records stands behind the older ones
abbrev pub Stand : List (List ℕ) → List ℕ → Type 0
Stand [] file = Unit {0}
Stand (r ∷ rs) file = (record_at file (16 * length rs) ≡ r) × Stand rs file

-- a file that appends and power dips made is whole records in a row, and a tail
record Whole (rs : List (List ℕ)) (file : List ℕ) : Type 0 where
  size : whole_of (length file) ≡ 16 * length rs
  most : length file ≤ 65536
  stand : Stand rs file

-- a record is in the file's first bytes, up to its own end
record_in : (file : List ℕ) (p : ℕ) → record_at file p ≡ drop p (take (p + 16) file)
record_in [] p = ap (take 16) (drop-nil p) ∙ sym (ap (drop p) (take-nil (p + 16)) ∙ drop-nil p)
record_in (b ∷ file) zero = refl
record_in (b ∷ file) (suc p) = rw (suc-add p 16) (record_in file p)

-- the records stand in every file that begins with the same bytes, and the older ones stand by themselves
stand_kept : (rs : List (List ℕ)) (file other : List ℕ) → take (16 * length rs) other ≡ take (16 * length rs) file → Stand rs file →
    Stand rs other
stand_kept [] file other e h = tt
stand_kept (r ∷ rs) file other e h =
    let k = 16 * length rs in
    let n : 16 * suc (length rs) ≡ k + 16 = omega arith in
    let same : take (k + 16) other ≡ take (k + 16) file = rw n at e in
    let older = rw (take-take k (k + 16) other (omega arith), take-take k (k + 16) file (omega arith)) at (ap (take k) same) in
    (record_in other k ∙ ap (drop k) same ∙ sym (record_in file k) ∙ h.0, stand_kept rs file other older h.1)

stand_older : (m : ℕ) (rs : List (List ℕ)) (file : List ℕ) → Stand rs file → Stand (drop m rs) file
stand_older zero rs file h = h
stand_older (suc m) [] file h = h
stand_older (suc m) (r ∷ rs) file h = stand_older m rs file h.1

module _ (rs : List (List ℕ)) (file : List ℕ) (w : Whole rs file) where
  whole_lost : (k : ℕ) → Whole (standing k rs) (take k file)
  whole_lost k =
      let m = length rs - k / 16 in
      let a = length-take k file in
      let b = length-drop m rs in
      let begins = take-take (16 * length (drop m rs)) k file (omega arith) in
      record {
        size = omega arith;
        most = omega arith;
        stand =
            stand_kept (drop m rs) file (take k file) begins (stand_older m rs file w.stand);
      }

  -- an append of t, whole or cut: it goes behind the whole records, and leaves them as they are
  module _ (p : ℕ) (place : p ≡ whole_of (length file)) (t : List ℕ) where
    at_end : p ≡ 16 * length rs
    at_end = place ∙ w.size

    front : length (take p file) ≡ p
    front = length-take-le p file (omega arith)

    length_behind : length (take p file ++ t) ≡ 16 * length rs + length t
    length_behind = length-append (take p file) t ∙ ap (λ n. n + length t) (front ∙ at_end)

    stand_behind : Stand rs (take p file ++ t)
    stand_behind = stand_kept rs file (take p file ++ t) (rw (sym at_end) (take_at (take p file) t p front)) w.stand

    whole_done : p + 16 ≤ 65536 → length t ≡ 16 → Whole (t ∷ rs) (take p file ++ t)
    whole_done fits n =
        let l = length_behind in
        let e = at_end in
        let here = ap (take 16) (drop_at (take p file) t (16 * length rs) (front ∙ at_end)) ∙ take_all 16 t (omega arith) in
        record { size = omega arith; most = omega arith; stand = (here, stand_behind) }

    whole_cut : p + 16 ≤ 65536 → length t < 16 → Whole rs (take p file ++ t)
    whole_cut fits n =
        let l = length_behind in
        let e = at_end in
        record { size = omega arith; most = omega arith; stand = stand_behind }

grown_whole : {rs : List (List ℕ)} {file : List ℕ} → Grown rs file → Whole rs file
grown_whole empty = record { size = refl; most = omega arith; stand = tt }
grown_whole (done {rs} {file} r p g h n) =
    let q = append_place (length file) p h in
    whole_done rs file (grown_whole g) p q.0 r q.1 n
grown_whole (cut {rs} {file} t p g h n) =
    let q = append_place (length file) p h in
    whole_cut rs file (grown_whole g) p q.0 t q.1 n
grown_whole (lost {rs} {file} k g) = whole_lost rs file (grown_whole g) k

-- what the reader is to answer where these records stand, the last one first
abbrev pub answer_of : List (List ℕ) → ℕ → Result Found Refusal
answer_of [] tail = Err FileLength
answer_of (r ∷ rs) tail = when well_formed r then Ok (record { at = 16 * length rs; tail = tail }) else Err Malformed

whole_found : (rs : List (List ℕ)) (file : List ℕ) → Whole rs file → restart file ≡ answer_of rs (length file % 16)
unfolding restart
whole_found [] file w = rw (lt-leb 16 (length file) (omega (arith, w.size)))
whole_found (r ∷ rs) file w =
    let e : last_of (length file) ≡ 16 * length rs = omega (arith, w.size) in
    rw (le-leb 16 (length file) (omega (arith, w.size)), le-leb (length file) 65536 w.most, e, w.stand.0)

-- the law: the answer, and never a mixture, for the bytes at the place found are that record, and each older record still stands at its
-- own place
pub record FindsLast (rs : List (List ℕ)) (file : List ℕ) : Type 0 where
  pub answer : restart file ≡ answer_of rs (length file % 16)
  pub bytes : Stand rs file
  pub most : length file ≤ 65536

pub finds_last : {rs : List (List ℕ)} {file : List ℕ} → Grown rs file → FindsLast rs file
finds_last {rs} {file} g =
    let w = grown_whole g in
    record { answer = whole_found rs file w; bytes = w.stand; most = w.most }

-- this record was completely written, by one of the appends that made the file
abbrev pub Written : List ℕ → {rs : List (List ℕ)} {file : List ℕ} → Grown rs file → Type 0
Written x empty = ⊥
Written x (done r p g h n) = (x ≡ r) ⊎ Written x g
Written x (cut t p g h n) = Written x g
Written x (lost k g) = Written x g

of_older : {x : List ℕ} (m : ℕ) (rs : List (List ℕ)) → Memᴰ x (drop m rs) → Memᴰ x rs
of_older zero rs h = h
of_older (suc m) [] h = h
of_older (suc m) (r ∷ rs) h = Memᴰ.tail (of_older m rs h)

standing_written : {x : List ℕ} {rs : List (List ℕ)} {file : List ℕ} (g : Grown rs file) → Memᴰ x rs → Written x g
standing_written empty h = Memᴰ.not-nil h
standing_written (done r p g _ _) h = ⊎_elim (λ e. inl e) (λ o. inr (standing_written g o)) (Memᴰ.cases_cons h)
standing_written (cut t p g _ _) h = standing_written g h
standing_written (lost {rs} k g) h = standing_written g (of_older (length rs - k / 16) rs h)

-- a place is answered where the last record stands
found_stands : (rs : List (List ℕ)) (file : List ℕ) (f : Found) (u : ℕ) → Stand rs file → answer_of rs u ≡ Ok f →
    Memᴰ (record_at file f.at) rs
found_stands [] file f u s h = let z : ◌≡◌ {A = ℕ} 0 1 = cc in absurd (omega arith)
found_stands (r ∷ rs) file f u s h = go (well_formed r) h
  where
    last : Found
    last = record { at = 16 * length rs; tail = u }

    go : (b : Bool) → (when b then Ok last else Err Malformed) ≡ Ok f → Memᴰ (record_at file f.at) (r ∷ rs)
    go true e = let q : f.at ≡ 16 * length rs = cc in Memᴰ.head (ap (record_at file) q ∙ s.0)
    go false e = let z : ◌≡◌ {A = ℕ} 0 1 = cc in absurd (omega arith)

-- power dips in a row, the loss of the file's end to any prefix included, never yield a record that was not written whole
pub found_written : {rs : List (List ℕ)} {file : List ℕ} (g : Grown rs file) (f : Found) → restart file ≡ Ok f →
    Written (record_at file f.at) g
found_written {rs} {file} g f h =
    let l = finds_last g in
    standing_written g (found_stands rs file f (length file % 16) l.bytes (sym l.answer ∙ h))
