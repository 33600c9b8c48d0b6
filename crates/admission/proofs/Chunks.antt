-- The bytes of a map and the records that it is cut into.
use Rattle.std.proofs.Common.{◌≡◌, ℕ, zero, suc, ◌+◌, ◌*◌, ◌<◌, List, [], ◌∷◌, ◌++◌, length, get_or, take, drop, refl, ap, ◌∙◌, arith}
use Rattle.std.proofs.Common.{length-take, length-drop}
use Rattle.std.specs.Simd.{first_chunks}
use Rattle.std.proofs.lemmas.List.{take-append-drop}
use Rattle.rules.specs.Basics.{at}
use Rattle.admission_rules.specs.Admission.{mark_at, marks_in}
use Rattle.admission.specs.Maps.{bytes_of, mark_of, shaped_of, shaped}

pub length-bytes_of : (rs : List (List ℕ)) → length (bytes_of rs) ≡ 8 * length rs
length-bytes_of [] = refl
length-bytes_of (r ∷ rs) = omega (arith, length-bytes_of rs)

pub marks_in-bytes_of : (rs : List (List ℕ)) → marks_in (bytes_of rs) ≡ length rs
marks_in-bytes_of rs = omega (arith, length-bytes_of rs)

-- behind a record's eight bytes stand those of the records after it
past : (b₀ b₁ b₂ b₃ b₄ b₅ b₆ b₇ i k : ℕ) (l : List ℕ) →
    at (b₀ ∷ b₁ ∷ b₂ ∷ b₃ ∷ b₄ ∷ b₅ ∷ b₆ ∷ b₇ ∷ l) (8 * suc i + k) ≡ at l (8 * i + k)
past b₀ b₁ b₂ b₃ b₄ b₅ b₆ b₇ i k l =
    let n = 8 * i + k in
    let place : 8 * suc i + k ≡ suc (suc (suc (suc (suc (suc (suc (suc n))))))) = omega arith in
    rw place

at-bytes_of : (k : ℕ) → k < 8 → (rs : List (List ℕ)) (i : ℕ) → i < length rs → at (bytes_of rs) (8 * i + k) ≡ at (get_or rs i []) k
at-bytes_of k h [] i l = absurd (omega arith)
at-bytes_of k h (r ∷ rs) (suc i) l =
    past (at r 0) (at r 1) (at r 2) (at r 3) (at r 4) (at r 5) (at r 6) (at r 7) i k (bytes_of rs) ∙ at-bytes_of k h rs i (omega arith)
at-bytes_of zero h (r ∷ rs) zero l = refl
at-bytes_of (suc zero) h (r ∷ rs) zero l = refl
at-bytes_of (suc (suc zero)) h (r ∷ rs) zero l = refl
at-bytes_of (suc (suc (suc zero))) h (r ∷ rs) zero l = refl
at-bytes_of (suc (suc (suc (suc zero)))) h (r ∷ rs) zero l = refl
at-bytes_of (suc (suc (suc (suc (suc zero))))) h (r ∷ rs) zero l = refl
at-bytes_of (suc (suc (suc (suc (suc (suc zero)))))) h (r ∷ rs) zero l = refl
at-bytes_of (suc (suc (suc (suc (suc (suc (suc zero))))))) h (r ∷ rs) zero l = refl
at-bytes_of (suc (suc (suc (suc (suc (suc (suc (suc k)))))))) h (r ∷ rs) zero l = absurd (omega arith)

module _ (rs : List (List ℕ)) (i : ℕ) (h : i < length rs) where
  byte : (k : ℕ) → k < 8 → at (bytes_of rs) (8 * i + k) ≡ at (get_or rs i []) k
  byte k l = at-bytes_of k l rs i h

  first : at (bytes_of rs) (8 * i) ≡ at (get_or rs i []) 0
  first = let place : 8 * i + 0 ≡ 8 * i = omega arith in rw place at (byte 0 (omega arith))

  pub mark_at-bytes_of : mark_at (bytes_of rs) i ≡ mark_of (get_or rs i [])
  mark_at-bytes_of = rw (first, byte 1 (omega arith), byte 2 (omega arith), byte 3 (omega arith), byte 4 (omega arith))

  pub shaped-bytes_of : shaped (bytes_of rs) i ≡ shaped_of (get_or rs i [])
  shaped-bytes_of = rw (byte 2 (omega arith), byte 5 (omega arith), byte 6 (omega arith), byte 7 (omega arith))

eight : (l m : List ℕ) → length l ≡ 8 →
    at l 0 ∷ at l 1 ∷ at l 2 ∷ at l 3 ∷ at l 4 ∷ at l 5 ∷ at l 6 ∷ at l 7 ∷ m ≡ l ++ m
eight (a ∷ b ∷ c ∷ d ∷ e ∷ f ∷ g ∷ x ∷ []) m h = refl
eight l m h = absurd (omega arith)

-- a map cut into records is the map
pub bytes_of-chunks : (n : ℕ) (m : List ℕ) → length m ≡ 8 * n → bytes_of (first_chunks 8 n m) ≡ m
bytes_of-chunks zero [] h = refl
bytes_of-chunks zero (x ∷ m) h = absurd (omega arith)
bytes_of-chunks (suc n) m h =
    let front : length (take 8 m) ≡ 8 = omega (arith, length-take 8 m) in
    let later : length (drop 8 m) ≡ 8 * n = simp length-drop (omega arith) in
    eight (take 8 m) (bytes_of (first_chunks 8 n (drop 8 m))) front ∙ ap (λ l. take 8 m ++ l) (bytes_of-chunks n (drop 8 m) later)
    ∙ take-append-drop 8 m
