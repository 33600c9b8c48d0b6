-- How a text is read from a place on, character by character.
use Rattle.std.proofs.Common.{◌≡◌, ℕ, zero, suc, ◌+◌, ◌-◌, ◌*◌, ◌^◌, ◌<◌, ◌≤◌, true, false, ltb, List, [], ◌∷◌, length, drop, refl, ap}
use Rattle.std.proofs.Common.{cond, not, Bool, ltb-false, position, Option, Some, None, sym, drop-drop}
use Rattle.std.specs.List.{position_or_len}
use Rattle.std.proofs.Common.{◌⊎◌, inl, inr, take, get_or, get_or-drop, take_all, length-drop, ◌∙◌, mul-le-mul_left, add-one, arith}
use Rattle.std.proofs.Common.{drop_of_length-le, drop-cons, ltb-true, le-ltb, lt-ltb}
use Prim.Native.Nat.pow
use Rattle.rules.specs.Basics.{at, when◌then◌else◌}
use Rattle.laws.proofs.Tests.{if_case}
use Rattle.assembly_rules.specs.Characters.{place, Run, run, is_space, skip}

-- a text from a place on: nothing, or a character and the text behind it
pub none_left : (s : List ℕ) (p : ℕ) → length s ≤ p → drop p s ≡ []
none_left s p h = drop_of_length-le s h

pub one_left : (s : List ℕ) (p : ℕ) → p < length s → drop p s ≡ at s p ∷ drop (p + 1) s
one_left s p h = drop-cons s p 0 h ∙ (rw (add-one p))

-- the characters from a place on, as they are lent
pub ahead_all : (s : List ℕ) (a : ℕ) → take (length s - a) (drop a s) ≡ drop a s
ahead_all s a = take_all (length s - a) (drop a s) (omega (arith, length-drop a s))

pub ahead_at : (s : List ℕ) (a i : ℕ) → get_or (take (length s - a) (drop a s)) i 0 ≡ at s (a + i)
ahead_at s a i = rw (ahead_all s a, get_or-drop a s i 0)

pub ahead_size : (s : List ℕ) (a : ℕ) → length (take (length s - a) (drop a s)) ≡ length s - a
ahead_size s a = ap length (ahead_all s a) ∙ length-drop a s

abbrev pub is_solid : ℕ → Bool
is_solid c = not (is_space c)

-- spaces are skipped up to the first character that is none
pub skip_at : (t : List ℕ) → skip t ≡ drop (position_or_len is_solid t) t
skip_at [] = refl
skip_at (c ∷ t) = go (is_space c) (skip_at t)
  where
    go : (b : Bool) → skip t ≡ drop (position_or_len is_solid t) t →
        (when b then skip t else c ∷ t) ≡ drop (cond (not (not b)) (1 + position_or_len is_solid t) 0) (c ∷ t)
    go true e =
        let more : 1 + position_or_len is_solid t ≡ suc (position_or_len is_solid t) = omega arith in rw more e
    go false e = refl

module _ (s : List ℕ) (a : ℕ) where
  abbrev solid : Option ℕ
  solid = position is_solid (take (length s - a) (drop a s))

  -- the first character that is no space, where the search found one, and the end, where it found none
  abbrev pub Skipped : Option ℕ → Type 0
  Skipped (Some k) = (skip (drop a s) ≡ drop (a + k) s) × (a + k ≤ length s)
  Skipped None = skip (drop a s) ≡ drop (length s) s

  pub skipped : Skipped solid
  skipped = rw (ahead_all s a) (go (ltb k (length t)) refl)
    where
      t : List ℕ
      t = drop a s

      k : ℕ
      k = position_or_len is_solid t

      go : (b : Bool) → ltb k (length t) ≡ b → Skipped (cond b (Some k) None)
      go true e =
          let h = ltb-true k (length t) e in
          (skip_at t ∙ drop-drop k a s, omega (arith, length-drop a s, h))
      go false e =
          let h = ltb-false k (length t) e in
          skip_at t ∙ none_left t k h ∙ sym (none_left s (length s) (omega arith))

module _ (base : ℕ) where
  pub run_more : (k n : ℕ) (s : List ℕ) (p : ℕ) → 0 < k → p < length s → place (at s p) < base →
      run base k n (drop p s) ≡ run base (k - 1) (n * base + place (at s p)) (drop (p + 1) s)
  run_more zero n s p z h l = absurd (omega arith)
  run_more (suc k) n s p z h l = let e : suc k - 1 ≡ k = omega arith in rw (e, one_left s p h, lt-ltb _ _ l)

  pub run_stop : (k n : ℕ) (s : List ℕ) (p : ℕ) → p < length s → (k ≡ 0) ⊎ ((k ≡ 0 → ⊥) × base ≤ place (at s p)) →
      run base k n (drop p s) ≡ record { value = n; left = k; rest = drop p s }
  run_stop zero n s p h w = refl
  run_stop (suc k) n s p h (inl z) = absurd (omega arith)
  run_stop (suc k) n s p h (inr l) = rw (one_left s p h, le-ltb _ _ l.1)

  pub run_end : (k n : ℕ) (s : List ℕ) (p : ℕ) → length s ≤ p → run base k n (drop p s) ≡ record { value = n; left = k; rest = drop p s }
  run_end zero n s p h = refl
  run_end (suc k) n s p h = rw (none_left s p h)

small : (d : ℕ) → d < 4 → 36 ^ d ≤ 46656
small zero h = omega arith
small (suc zero) h = omega arith
small (suc (suc zero)) h = omega arith
small (suc (suc (suc zero))) h = omega arith
small (suc (suc (suc (suc d)))) h = absurd (omega arith)

-- a number of fewer than four digits of base 36 or less, behind a 1, has room for one more
module _ (value base left : ℕ) (b : base ≤ 36) (z : 0 < left) (f : left ≤ 4) (v : value < 2 * 36 ^ (4 - left)) where
  pub fitting : value * base ≤ 3359232
  fitting = let p = small (4 - left) (omega arith) in let m = mul-le-mul_left value b in omega arith

  pub grown : (d : ℕ) → d < base → value * base + d < 2 * 36 ^ (4 - (left - 1))
  grown d h =
      let e : 4 - (left - 1) ≡ suc (4 - left) = omega arith in
      let m = mul-le-mul_left value b in rw (e, pow.suc 36 (4 - left)) (omega arith)

pub ruleset runs = (ahead_size, ahead_at, run_stop, run_end, fitting)

-- four digits of base 16 fit sixteen bits
digit_more : (k b : ℕ) → 16 * b ≤ 65536 → ((n : ℕ) (s : List ℕ) → n < 16 * b → (run 16 k n s).value < 65536) →
    (n : ℕ) (s : List ℕ) → n < b → (run 16 (suc k) n s).value < 65536
digit_more k b f rest n [] h = omega arith
digit_more k b f rest n (c ∷ s) h =
    if_case (λ (r : Run). r.value < 65536) (ltb (place c) 16) _ _
    (λ t. let d = ltb-true (place c) 16 t in rest (n * 16 + place c) s (omega arith)) (λ e. omega arith)

pub digits_fit : (s : List ℕ) → (run 16 4 0 s).value < 65536
digits_fit s =
    digit_more 3 1 (omega arith)
    (digit_more 2 16 (omega arith)
    (digit_more 1 256 (omega arith) (digit_more 0 4096 (omega arith) (λ n t h. omega arith))))
    0 s (omega arith)
