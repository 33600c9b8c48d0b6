-- Texts put one behind the other, and a number's digits.
use Prim.Native.Nat.pow
use Prim.Native.Nat.{ℕ, zero, suc, ◌+◌, ◌-◌, ◌/◌, ◌%◌, ◌≤◌, ◌<◌, ◌^◌}
use native.Mathlib.Numerals.{add-one}
use native.Mathlib.Omega.{arith}
use Prim.Native.Char.{code}
use mathlib.Core.Path.{◌≡◌, refl, sym, ap, ◌∙◌}
use mathlib.Core.List.{List, [], ◌∷◌, ◌++◌, append_assoc}
use borrow.Author.Tests.{lt-ltb, le-ltb}
use lib.Dec.{ltb}
use lib.ListN.{length, take, drop, set, length-append, length-set}
use lib.Seq.{sets, sets-eq, take-suc, length-take-le, drop-cons, drop-set-lt, get_or-set_same, take-length}
use borrow.Rule.Slice.PartMut.{put_mid}
use Rattle.std.proofs.lemmas.Slice.{put_mid-paste}
use Rattle.rules.specs.Basics.{at}
use Rattle.rules.specs.Step.{front}
use Rattle.rules.specs.Text.{digit, digits, spaced, number_line, each}
use Rattle.laws.proofs.Lists.{sets_append}
use Rattle.laws.proofs.Tests.{if_case}
use Rattle.characters.specs.Shown.{Puts, Shows}

-- one element more of a piece
pub sets_more : (t l : List ℕ) (p k : ℕ) → k < length l → set (sets t p (take k l)) (p + k) (at l k) ≡ sets t p (take (suc k) l)
sets_more t l p k h =
    let e = length-take-le k l (omega arith) in
    rw (take-suc l k 0 h, sets_append (take k l) (at l k ∷ []) t p, e)

-- "These fill the buffer's front; later bytes stay."
pub sets_front : (l t : List ℕ) → length l ≤ length t → sets t 0 l ≡ front l t
sets_front l t h = let z : 0 + length l ≡ length l = omega arith in sets-eq l t 0 (omega arith) ∙ (rw z)

-- an element is written before the rest of a list
set_before : (l : List ℕ) (p v : ℕ) → p < length l → drop p (set l p v) ≡ v ∷ drop (suc p) l
set_before l p v h =
    drop-cons (set l p v) p 0 (rw (length-set l p v) h)
    ∙ (rw (get_or-set_same l p v 0 h, drop-set-lt (suc p) l p v (omega arith)))

-- a number below 10 ^ k takes at most k digits
pub digits_most : (k n : ℕ) → length (digits k n) ≤ k
unfolding digits
digits_most zero n = omega arith
digits_most (suc k) n =
    if_case (λ (l : List ℕ). length l ≤ suc k) (ltb n 10) (digit n ∷ []) (digits k (n / 10) ++ digit (n % 10) ∷ [])
    (λ h. omega arith)
    (λ h. rw (length-append (digits k (n / 10)) (digit (n % 10) ∷ [])) (omega (arith, digits_most k (n / 10))))

two_digits : (k n : ℕ) → 10 ≤ n → digits (suc k) n ≡ digits k (n / 10) ++ digit (n % 10) ∷ []
unfolding digits
two_digits k n h = rw (le-ltb n 10 h)

one_digit : (k n : ℕ) → n < 10 → digits (suc k) n ≡ digit n ∷ []
unfolding digits
one_digit k n h = rw (lt-ltb n 10 h)

-- The digits of rest, and those that stand behind p already, are what is to be spelt.
pub record Spelling (spelt bytes : List ℕ) (p rest : ℕ) : Type 0 where
  pub inside : p < 20
  pub size : length bytes ≡ 20
  pub few : rest < 10 ^ suc p
  pub digits : digits (suc p) rest ++ drop (suc p) bytes ≡ spelt

module _ (spelt bytes : List ℕ) where
  pub spells_more : (p rest : ℕ) → Spelling spelt bytes p rest → 10 ≤ rest →
      (p ≡ 0 → ⊥) × Spelling spelt (set bytes p (digit (rest % 10))) (p - 1) (rest / 10)
  spells_more zero rest s h = absurd (omega (arith, s.few))
  spells_more (suc p) rest s h =
      let e : suc p - 1 ≡ p = omega arith in
      let more = two_digits (suc p) rest h in
      let few = rw (pow.suc 10 (suc p)) at s.few in
      rw e (
        λ z. omega (arith, z),
        record {
          inside = omega (arith, s.inside);
          size = length-set bytes (suc p) _ ∙ s.size;
          few = omega (arith, few);
          digits =
              rw (set_before bytes (suc p) (digit (rest % 10)) (omega (arith, s.inside, s.size)))
              (sym (append_assoc (digits (suc p) (rest / 10)) (digit (rest % 10) ∷ []) (drop (suc (suc p)) bytes))
              ∙ (rw (← more) s.digits));
        },
      )

  pub spells_last : (p rest : ℕ) → Spelling spelt bytes p rest → rest < 10 → drop p (set bytes p (digit rest)) ≡ spelt
  spells_last p rest s h =
      set_before bytes p (digit rest) (omega (arith, s.inside, s.size))
      ∙ ap (λ (l : List ℕ). l ++ drop (suc p) bytes) (sym (one_digit p rest h))
      ∙ s.digits

pub puts_piece : (l : List ℕ) (p : ℕ) {t t' : List ℕ} → t' ≡ sets t p l → Puts l p (p + length l) t t'
puts_piece l p e = record { end = refl; text = e }

-- a piece that is copied to its place
pub puts_copied : (l u t : List ℕ) (p : ℕ) → p + length l ≤ length t → u ≡ l →
    Puts l p (p + length l) t (put_mid p (p + length l - p) t u)
puts_copied l u t p h e =
    let size : length l ≡ p + length l - p = omega arith in
    puts_piece l p (put_mid-paste p (p + length l - p) t u l (length l) e size refl ∙ (rw (take-length l) (sym (sets-eq l t p h))))

-- one text, and another behind it
pub puts_append : {a b t u v : List ℕ} {p q r : ℕ} → Puts a p q t u → Puts b q r u v → Puts (a ++ b) p r t v
puts_append {a} {b} {t} {u} {v} {p} {q} {r} x y =
    record {
      end = omega (arith, x.end, y.end, length-append a b);
      text = y.text ∙ (rw (x.text, x.end) (sym (sets_append a b t p)));
    }

-- one more, behind those that are put already
pub puts_each : (f : ℕ → List ℕ) (n : ℕ) {p q r : ℕ} {t u v : List ℕ} → Puts (each n f) p q t u → Puts (f n) q r u v →
    Puts (each (n + 1) f) p r t v
unfolding each
puts_each f n a b = rw (add-one n) (puts_append a b)

pub spaced_most : (n : ℕ) → length (spaced n) ≤ 21
spaced_most n = let h = digits_most 20 n in omega arith

pub number_most : (letter n : ℕ) → length (number_line letter n) ≤ 23
unfolding number_line
number_most letter n = omega (arith, spaced_most n, length-append (spaced n) (code "\n" ∷ []))

-- what is put at the front, and fits
pub puts_shown : {l t t' : List ℕ} {r : ℕ} → Puts l 0 r t t' → length l ≤ length t → Shows l r t t'
puts_shown {l} {t} x h = record { count = omega (arith, x.end); text = x.text ∙ sets_front l t h }

pub shows_within : {l t t' : List ℕ} {n : ℕ} → Shows l n t t' → n ≤ length t'
shows_within {l} {t} s = rw (s.text, length-append l (drop (length l) t)) (omega (arith, s.count))
