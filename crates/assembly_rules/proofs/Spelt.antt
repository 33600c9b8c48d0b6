-- What is listed is read again: digits, and an operand in each of its shapes.
use Prim.Native.Nat.{ℕ, suc, ◌+◌, ◌*◌, ◌/◌, ◌%◌, ◌<◌}
use native.Mathlib.Omega.{arith}
use mathlib.Core.Path.{◌≡◌, refl, ap, ◌∙◌}
use mathlib.Core.Bool.{true, false}
use mathlib.Core.List.{List, [], ◌∷◌}
use Rattle.std.specs.Prelude.{Some}
use borrow.Author.Tests.{lt-ltb}
use Rattle.rules.specs.Basics.{sum16}
use Rattle.rules.specs.Operations.{target}
use Rattle.rules.specs.Text.{digit}
use Rattle.assembly_rules.specs.declared.Shape.{Shape}
use Rattle.assembly_rules.specs.declared.Shape.TheVariants as shape
use Rattle.assembly_rules.specs.declared.Operand.{Operand}
use Rattle.assembly_rules.specs.declared.Operand.TheVariants as operand
use Rattle.assembly_rules.specs.Characters.{said, run}
use Rattle.assembly_rules.specs.Sums.{value, number, term}
use Rattle.assembly_rules.specs.Operands.{operand}
use Rattle.assembly_rules.specs.Listing.{operand_text}
use Rattle.assembly_rules.proofs.Plain.{Digit, digit_known}

-- nothing of a text is read as more digits
abbrev Ends : ℕ → ℕ → List ℕ → Type 0
Ends base k t = (v : ℕ) → run base k v t ≡ record { value = v; left = k; rest = t }

-- one digit more is read
pub run_digit : (base k n c p : ℕ) (t : List ℕ) → Digit c p → p < base → run base (suc k) n (c ∷ t) ≡ run base k (n * base + p) t
run_digit base k n c p t x h = rw (x.placed, lt-ltb _ _ h)

module _ (c d h l : ℕ) (p : Digit c h) (q : Digit d l) (f : h < 16) (g : l < 16) where
  two_digits : (t : List ℕ) → Ends 16 2 t → number (c ∷ d ∷ t) ≡ value ((0 * 16 + h) * 16 + l) false t
  two_digits t e = rw (run_digit 16 3 0 c h (d ∷ t) p f, run_digit 16 2 (0 * 16 + h) d l t q g, e ((0 * 16 + h) * 16 + l))

  module _ (c' d' h' l' : ℕ) (p' : Digit c' h') (q' : Digit d' l') (f' : h' < 16) (g' : l' < 16) where
    four_digits : (t : List ℕ) → number (c ∷ d ∷ c' ∷ d' ∷ t) ≡ value ((((0 * 16 + h) * 16 + l) * 16 + h') * 16 + l') true t
    four_digits t = rw (p.placed, lt-ltb _ _ f, q.placed, lt-ltb _ _ g, p'.placed, lt-ltb _ _ f', q'.placed, lt-ltb _ _ g')

-- a byte's two digits, and an address's four
module _ (v : ℕ) (h : v < 256) where
  byte_read : (t : List ℕ) → Ends 16 2 t → number (digit (v / 16) ∷ digit (v % 16) ∷ t) ≡ value v false t
  byte_read t e =
      let same : (0 * 16 + v / 16) * 16 + v % 16 ≡ v = omega arith in
      two_digits (digit (v / 16)) (digit (v % 16)) (v / 16) (v % 16) (digit_known (v / 16) (omega arith))
      (digit_known (v % 16) (omega arith)) (omega arith) (omega arith) t e
      ∙ ap (λ (n : ℕ). value n false t) same

module _ (low high : ℕ) (f : low < 256) (g : high < 256) where
  word_read : (t : List ℕ) →
      number (digit (high / 16) ∷ digit (high % 16) ∷ digit (low / 16) ∷ digit (low % 16) ∷ t) ≡ value (high * 256 + low) true t
  word_read t =
      let same : (((0 * 16 + high / 16) * 16 + high % 16) * 16 + low / 16) * 16 + low % 16 ≡ high * 256 + low = omega arith in
      four_digits (digit (high / 16)) (digit (high % 16)) (high / 16) (high % 16) (digit_known (high / 16) (omega arith))
      (digit_known (high % 16) (omega arith)) (omega arith) (omega arith)
      (digit (low / 16)) (digit (low % 16)) (low / 16) (low % 16) (digit_known (low / 16) (omega arith))
      (digit_known (low % 16) (omega arith)) (omega arith) (omega arith) t
      ∙ ap (λ (n : ℕ). value n true t) same

-- the operand that a shape's text is read as
abbrev pub read_as : ℕ → ℕ → ℕ → Shape → Operand
read_as a low high shape.Implied = operand.Nothing
read_as a low high shape.Accumulator = operand.Accumulator
read_as a low high shape.Immediate = operand.Immediate low
read_as a low high shape.Zero = operand.Address low false
read_as a low high shape.ZeroX = operand.AddressX low false
read_as a low high shape.ZeroY = operand.AddressY low false
read_as a low high shape.IndirectX = operand.IndirectX low
read_as a low high shape.IndirectY = operand.IndirectY low
read_as a low high shape.Relative = operand.Address (target (sum16 a 2) low) true
read_as a low high shape.Absolute = operand.Address (high * 256 + low) true
read_as a low high shape.AbsoluteX = operand.AddressX (high * 256 + low) true
read_as a low high shape.AbsoluteY = operand.AddressY (high * 256 + low) true
read_as a low high shape.Indirect = operand.Indirect (high * 256 + low)

module _ (a low high : ℕ) (f : low < 256) (g : high < 256) where
  target_read : (t : List ℕ) →
      let to = target (sum16 a 2) low in
      number (digit (to / 256 / 16) ∷ digit (to / 256 % 16) ∷ digit (to % 256 / 16) ∷ digit (to % 256 % 16) ∷ t) ≡ value to true t
  target_read t =
      let to = target (sum16 a 2) low in
      let same : to / 256 * 256 + to % 256 ≡ to = omega arith in
      word_read (to % 256) (to / 256) (omega arith) (omega arith) t ∙ ap (λ (n : ℕ). value n true t) same

  -- by the 13 shapes
  pub operand_read : (s : Shape) → operand (operand_text a low high s) ≡ Some (read_as a low high s)
  unfolding operand term
  operand_read shape.Implied = refl
  operand_read shape.Accumulator = refl
  operand_read shape.Immediate = rw (byte_read low f [] (λ n. refl))
  operand_read shape.Zero = rw (byte_read low f [] (λ n. refl))
  operand_read shape.ZeroX = rw (byte_read low f (said ",X") (λ n. refl))
  operand_read shape.ZeroY = rw (byte_read low f (said ",Y") (λ n. refl))
  operand_read shape.IndirectX = rw (byte_read low f (said ",X)") (λ n. refl))
  operand_read shape.IndirectY = rw (byte_read low f (said "),Y") (λ n. refl))
  operand_read shape.Relative = rw (target_read [])
  operand_read shape.Absolute = rw (word_read low high f g [])
  operand_read shape.AbsoluteX = rw (word_read low high f g (said ",X"))
  operand_read shape.AbsoluteY = rw (word_read low high f g (said ",Y"))
  operand_read shape.Indirect = rw (word_read low high f g (said ")"))
