-- What is listed, line by line: how long lines are and how many bytes they are of, and that a text is its first line and the text of what
-- follows.
use Prim.Native.Nat.{ℕ, zero, suc, ◌≤◌, ◌<◌}
use Prim.Native.Char.{code}
use native.Mathlib.Nat.{not-suc-le-zero}
use native.Mathlib.Omega.{arith}
use mathlib.Core.Path.{◌≡◌, refl, ap, ◌∙◌}
use mathlib.Core.Bool.{◌&&◌}
use mathlib.Core.List.{List, [], ◌∷◌, ◌++◌}
use borrow.Author.Tests.{leb-true}
use lib.Dec.{leb}
use lib.ListN.{length, drop, length-append, length-drop}
use Rattle.rules.specs.Basics.{at, sum16}
use Rattle.rules.specs.Opcodes.{Entry, undefined, alone, byte, word, late, decode, size_of, is_defined, instruction_of}
use Rattle.laws.proofs.Tests.{and_right, if_case, if_both}
use Rattle.assembly_rules.specs.declared.Shape.{Shape}
use Rattle.assembly_rules.specs.declared.Shape.TheVariants as shape
use Rattle.assembly_rules.specs.Mnemonics.{shape_of}
use Rattle.assembly_rules.specs.Listing.{operand_text, Listed, line_at, listed, text_of}
use Rattle.assembly_rules.proofs.Cases.{texts, faults, listings}

-- how long an operand is goes by its shape alone
pub operand_width : (a low high : ℕ) (s : Shape) → length (operand_text a low high s) ≡ length (operand_text 0 0 0 s)
operand_width a low high shape.Implied = refl
operand_width a low high shape.Accumulator = refl
operand_width a low high shape.Immediate = refl
operand_width a low high shape.Zero = refl
operand_width a low high shape.ZeroX = refl
operand_width a low high shape.ZeroY = refl
operand_width a low high shape.IndirectX = refl
operand_width a low high shape.IndirectY = refl
operand_width a low high shape.Relative = refl
operand_width a low high shape.Absolute = refl
operand_width a low high shape.AbsoluteX = refl
operand_width a low high shape.AbsoluteY = refl
operand_width a low high shape.Indirect = refl

operand_most : (s : Shape) → length (operand_text 0 0 0 s) ≤ 8
operand_most shape.Implied = omega arith
operand_most shape.Accumulator = omega arith
operand_most shape.Immediate = omega arith
operand_most shape.Zero = omega arith
operand_most shape.ZeroX = omega arith
operand_most shape.ZeroY = omega arith
operand_most shape.IndirectX = omega arith
operand_most shape.IndirectY = omega arith
operand_most shape.Relative = omega arith
operand_most shape.Absolute = omega arith
operand_most shape.AbsoluteX = omega arith
operand_most shape.AbsoluteY = omega arith
operand_most shape.Indirect = omega arith

sizes : (e : Entry) → 1 ≤ size_of e
sizes undefined = omega arith
sizes (alone i) = omega arith
sizes (byte f) = omega arith
sizes (word f) = omega arith
sizes (late f) = omega arith

-- no line has more than eleven characters, or twelve with its LF
pub line_most : (a : ℕ) (bytes : List ℕ) → length (line_at a bytes).text ≤ 11
unfolding line_at
line_most a bytes =
    -- what was computed comes first
    let texts_hold = texts in
    let faults_hold = faults in
    let listings_hold = listings in
    let e = decode (at bytes 0) in
    let low = at bytes 1 in
    let high = at bytes 2 in
    if_case (λ (l : Listed). length l.text ≤ 11) (is_defined e && leb (size_of e) (length bytes)) _ _
    (λ h.
    let s = shape_of (instruction_of e low high) in
    omega (arith, operand_width a low high s, operand_most s))
    (λ h. omega arith)

-- a line is of at least one byte, and of no more than there are
pub line_size : (a : ℕ) (bytes : List ℕ) → 0 < length bytes → (1 ≤ (line_at a bytes).size) × ((line_at a bytes).size ≤ length bytes)
unfolding line_at
line_size a bytes some =
    let e = decode (at bytes 0) in
    if_case (λ (l : Listed). (1 ≤ l.size) × (l.size ≤ length bytes)) (is_defined e && leb (size_of e) (length bytes)) _ _
    (λ h. (sizes e, leb-true _ _ (and_right (is_defined e) _ h)))
    (λ h. (omega arith, some))

-- wherever it stands
line_anywhere : (a b : ℕ) (bytes : List ℕ) →
    ((line_at a bytes).size ≡ (line_at b bytes).size) × (length (line_at a bytes).text ≡ length (line_at b bytes).text)
unfolding line_at
line_anywhere a b bytes =
    let e = decode (at bytes 0) in
    let low = at bytes 1 in
    let high = at bytes 2 in
    let s = shape_of (instruction_of e low high) in
    if_both (λ (l m : Listed). (l.size ≡ m.size) × (length l.text ≡ length m.text))
    (is_defined e && leb (size_of e) (length bytes)) _ _ _ _
    (refl, omega (arith, operand_width a low high s, operand_width b low high s)) (refl, refl)

-- what is left behind a line
left_over : (a b : ℕ) (bytes : List ℕ) (k : ℕ) → length bytes ≤ k → length (drop (line_at a (b ∷ bytes)).size (b ∷ bytes)) ≤ k
left_over a b bytes k h =
    let l = line_size a (b ∷ bytes) (omega arith) in
    rw (length-drop (line_at a (b ∷ bytes)).size (b ∷ bytes)) (omega (arith, l.0))

-- "at most k lines, of which there are no more than bytes"
enough : (k j a : ℕ) (bytes : List ℕ) → length bytes ≤ k → length bytes ≤ j → listed k a bytes ≡ listed j a bytes
unfolding listed
enough zero zero a bytes h g = refl
enough zero (suc j) a [] h g = refl
enough zero (suc j) a (b ∷ bytes) h g = absurd (not-suc-le-zero h)
enough (suc k) zero a [] h g = refl
enough (suc k) zero a (b ∷ bytes) h g = absurd (not-suc-le-zero g)
enough (suc k) (suc j) a [] h g = refl
enough (suc k) (suc j) a (b ∷ bytes) h g =
    let l = line_at a (b ∷ bytes) in
    let rest = drop l.size (b ∷ bytes) in
    ap (λ (t : List ℕ). l.text ++ code "\n" ∷ t)
    (enough k j (sum16 a l.size) rest (left_over a b bytes k (omega arith)) (left_over a b bytes j (omega arith)))

-- a text is its first line and the text of what follows
pub text_first : (a : ℕ) (bytes : List ℕ) → 0 < length bytes →
    let l = line_at a bytes in text_of a bytes ≡ l.text ++ code "\n" ∷ text_of (sum16 a l.size) (drop l.size bytes)
unfolding listed
text_first a [] h = absurd (not-suc-le-zero h)
text_first a (b ∷ bytes) h =
    let l = line_at a (b ∷ bytes) in
    let rest = drop l.size (b ∷ bytes) in
    ap (λ (t : List ℕ). l.text ++ code "\n" ∷ t)
    (enough (length bytes) (length rest) (sum16 a l.size) rest (left_over a b bytes (length bytes) (omega arith)) (omega arith))

pub text_none : (a : ℕ) → text_of a [] ≡ []
unfolding listed
text_none a = refl

joined : (x y : List ℕ) (c : ℕ) (s t : List ℕ) → length x ≡ length y → length s ≡ length t → length (x ++ c ∷ s) ≡ length (y ++ c ∷ t)
joined x y c s t h g = omega (arith, length-append x (c ∷ s), length-append y (c ∷ t))

listed_anywhere : (k a b : ℕ) (bytes : List ℕ) → length (listed k a bytes) ≡ length (listed k b bytes)
unfolding listed
listed_anywhere zero a b bytes = refl
listed_anywhere (suc k) a b [] = refl
listed_anywhere (suc k) a b (c ∷ bytes) =
    let l = line_at a (c ∷ bytes) in
    let m = line_at b (c ∷ bytes) in
    let same = line_anywhere a b (c ∷ bytes) in
    let rest = listed_anywhere k (sum16 a l.size) (sum16 b m.size) (drop l.size (c ∷ bytes)) in
    let over = ap (λ (n : ℕ). length (listed k (sum16 b m.size) (drop n (c ∷ bytes)))) same.0 in
    joined l.text m.text (code "\n") _ _ same.1 (rest ∙ over)

-- how long it is does not go by where it stands
pub text_anywhere : (a b : ℕ) (bytes : List ℕ) → length (text_of a bytes) ≡ length (text_of b bytes)
text_anywhere a b bytes = listed_anywhere (length bytes) a b bytes
