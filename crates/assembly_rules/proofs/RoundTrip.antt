-- "What the lister writes assembles to the same bytes."
use Prim.Native.Nat.{ℕ, zero, suc, ◌+◌, ◌-◌, ◌*◌, ◌/◌, ◌%◌, ◌≤◌, ◌<◌}
use native.Mathlib.Omega.{arith}
use native.Mathlib.Decide.{dec_le}
use mathlib.Core.Path.{◌≡◌, refl, sym, ap, ◌∙◌}
use mathlib.Core.Bool.{Bool, true, false, ◌&&◌, ◌||◌, not, false≢true}
use mathlib.Core.List.{List, [], ◌∷◌, ◌++◌, map, append-nil, append_assoc}
use borrow.Author.Tests.{eqb-true, leb-true, lt-ltb, le-ltb, le-leb}
use lib.Dec.{ltb, leb, eqb}
use lib.ListN.{length, take, drop, length-append, length-drop, take-append-drop}
use lib.Seq.{get_or-drop, length-take-le, take-append_seam}
use Rattle.std.specs.Prelude.{Option, Some, None, is_none, Ok}
use Rattle.std.specs.Option.{option_eq}
use Rattle.rules.specs.Basics.{when◌then◌else◌, all, at, sum16}
use Rattle.rules.specs.Opcodes.{Entry, decode, size_of, is_defined, instruction_of}
use Rattle.rules.specs.Operations.{target}
use Rattle.rules.specs.Step.{front}
use Rattle.rules.specs.Table.{table}
use Rattle.rules.specs.Text.{digit, hex}
use Rattle.rules.proofs.Table.{everywhere}
use Rattle.laws.proofs.Tests.{and_left, and_right, all_at, if_case}
use Rattle.laws.proofs.Counts.{Bytes}
use Rattle.assembly_rules.specs.declared.Shape.{Shape}
use Rattle.assembly_rules.specs.declared.Shape.TheVariants as shape
use Rattle.assembly_rules.specs.declared.Operand.{Operand}
use Rattle.assembly_rules.specs.declared.Fault.{Fault}
use Rattle.assembly_rules.specs.declared.Line.{Line}
use Rattle.assembly_rules.specs.declared.Line.TheVariants.{One, Two, Three}
use Rattle.assembly_rules.specs.Characters.{said, run, skip}
use Rattle.assembly_rules.specs.Operands.{operand}
use Rattle.assembly_rules.specs.Mnemonics.{byte_name, name_of, shape_of, numbered, opcode_of, is_mnemonic}
use Rattle.assembly_rules.specs.Lines.{branch_line, coded, with_operand, written, line_of}
use Rattle.assembly_rules.specs.Assembly.{lines_of, Made, made, wrong, fitted, judged, lines, assembled, told, assemble_words}
use Rattle.assembly_rules.specs.Listing.{letters_of, operand_text, Listed, instruction_line, line_at, text_of, list_words}
use Rattle.assembly_rules.proofs.Listings.{line_size, text_first, text_none}
use Rattle.assembly_rules.proofs.Plain.{IsPlain, Plain, plain_append, all_plain_lem, all_plain, line_plain, lines_plain}
use Rattle.assembly_rules.proofs.Plain.{Digit, digit_known}
use Rattle.assembly_rules.proofs.Spelt.{run_digit, read_as, operand_read}

-- the line that a shape makes of an opcode and what follows it
abbrev line_for : Shape → ℕ → ℕ → ℕ → Line
line_for shape.Implied n low high = One n
line_for shape.Accumulator n low high = One n
line_for shape.Immediate n low high = Two n low
line_for shape.Zero n low high = Two n low
line_for shape.ZeroX n low high = Two n low
line_for shape.ZeroY n low high = Two n low
line_for shape.IndirectX n low high = Two n low
line_for shape.IndirectY n low high = Two n low
line_for shape.Relative n low high = Two n low
line_for shape.Absolute n low high = Three n low high
line_for shape.AbsoluteX n low high = Three n low high
line_for shape.AbsoluteY n low high = Three n low high
line_for shape.Indirect n low high = Three n low high

-- "Branch operands are target addresses", at the edges too
branch_read : (n a low : ℕ) → low < 256 → branch_line n a (target (sum16 a 2) low) ≡ Ok (Two n low)
branch_read n a low h = go (dec_le 128 low)
  where
    go : Dec (128 ≤ low) → branch_line n a (target (sum16 a 2) low) ≡ Ok (Two n low)
    go (yes l) =
        let e : (target (sum16 a 2) low + (65536 - sum16 a 2)) % 65536 ≡ low + 65280 = omega arith in
        rw e
        (rw (le-ltb (low + 65280) 128 (omega arith), le-leb 65408 (low + 65280) (omega arith)) (ap (λ (o : ℕ). Ok (Two n o)) (omega arith)))
    go (no l) =
        let e : (target (sum16 a 2) low + (65536 - sum16 a 2)) % 65536 ≡ low = omega arith in
        rw e (rw (lt-ltb low 128 (omega arith)) (ap (λ (o : ℕ). Ok (Two n o)) (omega arith)))

module _ (a m low high : ℕ) (f : low < 256) (g : high < 256) where
  low_again : (high * 256 + low) % 256 ≡ low
  low_again = omega arith

  high_again : (high * 256 + low) / 256 ≡ high
  high_again = omega arith

  short : ltb low 256 ≡ true
  short = lt-ltb low 256 f

  coded_read : (s : Shape) (n : ℕ) → opcode_of m s ≡ Some n → (eqb (numbered s) 8 ≡ false → opcode_of m shape.Relative ≡ None) →
      coded a m (read_as a low high s) ≡ Ok (line_for s n low high)
  coded_read shape.Implied n h r = rw h
  coded_read shape.Accumulator n h r = rw h
  coded_read shape.Immediate n h r = rw (h, short)
  coded_read shape.Zero n h r = rw (r refl, h, short)
  coded_read shape.ZeroX n h r = rw (h, short)
  coded_read shape.ZeroY n h r = rw (h, short)
  coded_read shape.IndirectX n h r = rw (h, short)
  coded_read shape.IndirectY n h r = rw (h, short)
  coded_read shape.Relative n h r = rw h (branch_read n a low f)
  coded_read shape.Absolute n h r = rw (r refl, h, low_again, high_again)
  coded_read shape.AbsoluteX n h r = rw (h, low_again, high_again)
  coded_read shape.AbsoluteY n h r = rw (h, low_again, high_again)
  coded_read shape.Indirect n h r = rw (h, low_again, high_again)

-- Plain characters, and what no name and no number goes on with.

plain_digit : (n : ℕ) → n < 36 → IsPlain (digit n)
plain_digit n h = (digit_known n h).plain

plain_hex : (v : ℕ) → v < 256 → Plain (hex v)
plain_hex v h = (plain_digit (v / 16) (omega arith), (plain_digit (v % 16) (omega arith), tt))

plain_byte : (v : ℕ) → v < 256 → (p q : List ℕ) → all_plain p ≡ true → all_plain q ≡ true → Plain (p ++ hex v ++ q)
plain_byte v h p q x y = plain_append (p ++ hex v) q (plain_append p (hex v) (all_plain_lem p x) (plain_hex v h)) (all_plain_lem q y)

plain_word : (low high : ℕ) → low < 256 → high < 256 → (p q : List ℕ) → all_plain p ≡ true → all_plain q ≡ true →
    Plain (p ++ hex high ++ hex low ++ q)
plain_word low high f g p q x y =
    plain_append (p ++ hex high ++ hex low) q
    (plain_append (p ++ hex high) (hex low) (plain_append p (hex high) (all_plain_lem p x) (plain_hex high g)) (plain_hex low f))
    (all_plain_lem q y)

module _ (a low high : ℕ) (f : low < 256) (g : high < 256) where
  -- as every operand begins: with nothing, or a space
  begins : (s : Shape) (v : ℕ) → run 36 1 v (operand_text a low high s) ≡ record { value = v; left = 1; rest = operand_text a low high s }
  begins shape.Implied v = refl
  begins shape.Accumulator v = refl
  begins shape.Immediate v = refl
  begins shape.Zero v = refl
  begins shape.ZeroX v = refl
  begins shape.ZeroY v = refl
  begins shape.IndirectX v = refl
  begins shape.IndirectY v = refl
  begins shape.Relative v = refl
  begins shape.Absolute v = refl
  begins shape.AbsoluteX v = refl
  begins shape.AbsoluteY v = refl
  begins shape.Indirect v = refl

  plain_operand : (s : Shape) → Plain (operand_text a low high s)
  plain_operand shape.Implied = tt
  plain_operand shape.Accumulator = all_plain_lem (said " A") refl
  plain_operand shape.Immediate = plain_byte low f (said " #$") [] refl refl
  plain_operand shape.Zero = plain_byte low f (said " $") [] refl refl
  plain_operand shape.ZeroX = plain_byte low f (said " $") (said ",X") refl refl
  plain_operand shape.ZeroY = plain_byte low f (said " $") (said ",Y") refl refl
  plain_operand shape.IndirectX = plain_byte low f (said " ($") (said ",X)") refl refl
  plain_operand shape.IndirectY = plain_byte low f (said " ($") (said "),Y") refl refl
  plain_operand shape.Relative =
      let to = target (sum16 a 2) low in plain_word (to % 256) (to / 256) (omega arith) (omega arith) (said " $") [] refl refl
  plain_operand shape.Absolute = plain_word low high f g (said " $") [] refl refl
  plain_operand shape.AbsoluteX = plain_word low high f g (said " $") (said ",X") refl refl
  plain_operand shape.AbsoluteY = plain_word low high f g (said " $") (said ",Y") refl refl
  plain_operand shape.Indirect = plain_word low high f g (said " ($") (said ")") refl refl

-- A mnemonic's three letters.
pub record Named (m : ℕ) : Type 0 where
  pub spelt : ((1 * 36 + m / 1296 % 36) * 36 + m / 36 % 36) * 36 + m % 36 ≡ m
  pub known : is_mnemonic m ≡ true
  pub some : eqb m 1 ≡ false
  pub other : eqb m byte_name ≡ false

module _ (c d e p q r : ℕ) (x : Digit c p) (y : Digit d q) (z : Digit e r) (f : p < 36) (g : q < 36) (h : r < 36) where
  letters_read : (t : List ℕ) → ((v : ℕ) → run 36 1 v t ≡ record { value = v; left = 1; rest = t }) →
      run 36 4 1 (skip (c ∷ d ∷ e ∷ t)) ≡ record { value = ((1 * 36 + p) * 36 + q) * 36 + r; left = 1; rest = t }
  letters_read t k =
      rw (
        x.solid,
        run_digit 36 3 1 c p (d ∷ e ∷ t) x f,
        run_digit 36 2 (1 * 36 + p) d q (e ∷ t) y g,
        run_digit 36 1 ((1 * 36 + p) * 36 + q) e r t z h,
      )
      (k (((1 * 36 + p) * 36 + q) * 36 + r))

name_read : (a m : ℕ) (t : List ℕ) (o : Operand) → Named m → ((v : ℕ) → run 36 1 v t ≡ record { value = v; left = 1; rest = t }) →
    operand t ≡ Some o → written a (letters_of m ++ t) ≡ coded a m o
name_read a m t o n k e =
    let letters = letters_read (digit (m / 1296 % 36)) (digit (m / 36 % 36)) (digit (m % 36)) (m / 1296 % 36) (m / 36 % 36) (m % 36)
    (digit_known (m / 1296 % 36) (omega arith)) (digit_known (m / 36 % 36) (omega arith)) (digit_known (m % 36) (omega arith))
    (omega arith) (omega arith) (omega arith) t k in
    rw (letters, e, n.spelt, n.some, n.other, n.known)

plain_letters : (m : ℕ) → Plain (letters_of m)
plain_letters m =
    (plain_digit (m / 1296 % 36) (omega arith), (plain_digit (m / 36 % 36) (omega arith), (plain_digit (m % 36) (omega arith), tt)))

-- the bytes that it stands for
abbrev bytes_for : Shape → ℕ → ℕ → ℕ → List ℕ
bytes_for shape.Implied n low high = n ∷ []
bytes_for shape.Accumulator n low high = n ∷ []
bytes_for shape.Immediate n low high = n ∷ low ∷ []
bytes_for shape.Zero n low high = n ∷ low ∷ []
bytes_for shape.ZeroX n low high = n ∷ low ∷ []
bytes_for shape.ZeroY n low high = n ∷ low ∷ []
bytes_for shape.IndirectX n low high = n ∷ low ∷ []
bytes_for shape.IndirectY n low high = n ∷ low ∷ []
bytes_for shape.Relative n low high = n ∷ low ∷ []
bytes_for shape.Absolute n low high = n ∷ low ∷ high ∷ []
bytes_for shape.AbsoluteX n low high = n ∷ low ∷ high ∷ []
bytes_for shape.AbsoluteY n low high = n ∷ low ∷ high ∷ []
bytes_for shape.Indirect n low high = n ∷ low ∷ high ∷ []

abbrev size_for : Shape → ℕ
size_for s = length (bytes_for s 0 0 0)

-- The one computed test of the 256 opcodes: each that is defined is that of its name and shape, has the shape's length, is a branch where a
-- branch has its name, and its name is a mnemonic of three letters.
module _ (low high : ℕ) where
  abbrev name_at : Entry → ℕ
  name_at e = name_of (instruction_of e low high)

  abbrev shape_at : Entry → Shape
  shape_at e = shape_of (instruction_of e low high)

abbrev respelt : ℕ → ℕ
respelt m = ((1 * 36 + m / 1296 % 36) * 36 + m / 36 % 36) * 36 + m % 36

abbrev is_named : ℕ → Bool
is_named m = eqb (respelt m) m && is_mnemonic m && not (eqb m 1) && not (eqb m byte_name)

abbrev is_good : ℕ → Entry → ℕ → Shape → Bool
is_good n e m s =
    not (is_defined e) ||
    (option_eq eqb (opcode_of m s) (Some n) && eqb (size_of e) (size_for s) &&
    (eqb (numbered s) 8 || is_none (opcode_of m shape.Relative)) && is_named m)

abbrev good : ℕ → Bool
good n = is_good n (decode n) (name_at 0 0 (decode n)) (shape_at 0 0 (decode n))

all_good : all 256 good ≡ true
unfolding decode opcode_of is_mnemonic
all_good = refl

module _ (low high : ℕ) where
  names_same : map (name_at low high) table ≡ map (name_at 0 0) table
  unfolding table
  names_same = refl

  shapes_same : map (shape_at low high) table ≡ map (shape_at 0 0) table
  unfolding table
  shapes_same = refl

-- what is known of an opcode that is defined
record Good (n : ℕ) (e : Entry) (m : ℕ) (s : Shape) : Type 0 where
  opcode : opcode_of m s ≡ Some n
  size : size_of e ≡ size_for s
  branch : eqb (numbered s) 8 ≡ false → opcode_of m shape.Relative ≡ None
  named : Named m

four : (a b c d : Bool) → (a && b && c && d) ≡ true → (a ≡ true) × (b ≡ true) × (c ≡ true) × (d ≡ true)
four a b c d h = search (and_left, and_right) depth 8

negated : (b : Bool) → not b ≡ true → b ≡ false
negated true h = sym h
negated false h = refl

otherwise : (a b : Bool) → (a || b) ≡ true → a ≡ false → b ≡ true
otherwise true b h e = absurd (false≢true (sym e))
otherwise false b h e = h

is_this : (o : Option ℕ) (n : ℕ) → option_eq eqb o (Some n) ≡ true → o ≡ Some n
is_this None n h = absurd (false≢true h)
is_this (Some k) n h = ap Some (eqb-true k n h)

is_nothing : (o : Option ℕ) → is_none o ≡ true → o ≡ None
is_nothing None h = refl
is_nothing (Some k) h = absurd (false≢true h)

is_named_lem : (m : ℕ) → is_named m ≡ true → Named m
is_named_lem m h =
    let k = four (eqb (respelt m) m) (is_mnemonic m) (not (eqb m 1)) (not (eqb m byte_name)) h in
    record { spelt = eqb-true _ _ k.0; known = k.1; some = negated _ k.2; other = negated _ k.3 }

is_good_lem : (n : ℕ) (e : Entry) (m : ℕ) (s : Shape) → is_good n e m s ≡ true → is_defined e ≡ true → Good n e m s
is_good_lem n e m s h d =
    let r = otherwise (not (is_defined e)) _ h (rw d) in
    let k = four (option_eq eqb (opcode_of m s) (Some n)) (eqb (size_of e) (size_for s))
    (eqb (numbered s) 8 || is_none (opcode_of m shape.Relative)) (is_named m) r in
    record {
      opcode = is_this _ n k.0;
      size = eqb-true _ _ k.1;
      branch = λ f. is_nothing _ (otherwise (eqb (numbered s) 8) (is_none (opcode_of m shape.Relative)) k.2 f);
      named = is_named_lem m k.3;
    }

-- whatever its operand
good_at : (n low high : ℕ) → n < 256 → is_defined (decode n) ≡ true →
    Good n (decode n) (name_at low high (decode n)) (shape_at low high (decode n))
good_at n low high h d =
    let name = everywhere (name_at low high) (name_at 0 0) (names_same low high) n h in
    let form = everywhere (shape_at low high) (shape_at 0 0) (shapes_same low high) n h in
    rw (name, form) (is_good_lem n (decode n) (name_at 0 0 (decode n)) (shape_at 0 0 (decode n)) (all_at 256 good all_good n h) d)

-- A line of this text makes these bytes, and is one line.
record Again (a : ℕ) (bytes : List ℕ) (l : Listed) : Type 0 where
  plain : Plain l.text
  makes : (room n : ℕ) (before : List ℕ) (go_on : List ℕ → Made) →
      judged room n before go_on (line_of a l.text) ≡ fitted room n before go_on (take l.size bytes)

takes_one : (l : List ℕ) → 1 ≤ length l → at l 0 ∷ [] ≡ take 1 l
takes_one [] h = absurd (omega arith)
takes_one (a ∷ l) h = refl

takes_two : (l : List ℕ) → 2 ≤ length l → at l 0 ∷ at l 1 ∷ [] ≡ take 2 l
takes_two [] h = absurd (omega arith)
takes_two (a ∷ []) h = absurd (omega arith)
takes_two (a ∷ b ∷ l) h = refl

takes_three : (l : List ℕ) → 3 ≤ length l → at l 0 ∷ at l 1 ∷ at l 2 ∷ [] ≡ take 3 l
takes_three [] h = absurd (omega arith)
takes_three (a ∷ []) h = absurd (omega arith)
takes_three (a ∷ b ∷ []) h = absurd (omega arith)
takes_three (a ∷ b ∷ c ∷ l) h = refl

module _ (bytes : List ℕ) where
  abbrev first : ℕ
  first = at bytes 0

  abbrev low : ℕ
  low = at bytes 1

  abbrev high : ℕ
  high = at bytes 2

  takes : (s : Shape) → size_for s ≤ length bytes → bytes_for s first low high ≡ take (size_for s) bytes
  takes shape.Implied h = takes_one bytes h
  takes shape.Accumulator h = takes_one bytes h
  takes shape.Immediate h = takes_two bytes h
  takes shape.Zero h = takes_two bytes h
  takes shape.ZeroX h = takes_two bytes h
  takes shape.ZeroY h = takes_two bytes h
  takes shape.IndirectX h = takes_two bytes h
  takes shape.IndirectY h = takes_two bytes h
  takes shape.Relative h = takes_two bytes h
  takes shape.Absolute h = takes_three bytes h
  takes shape.AbsoluteX h = takes_three bytes h
  takes shape.AbsoluteY h = takes_three bytes h
  takes shape.Indirect h = takes_three bytes h

module _ (room n : ℕ) (before : List ℕ) (go_on : List ℕ → Made) where
  judged_for : (s : Shape) (opcode second third : ℕ) →
      judged room n before go_on (Ok (line_for s opcode second third)) ≡ fitted room n before go_on (bytes_for s opcode second third)
  judged_for shape.Implied opcode second third = refl
  judged_for shape.Accumulator opcode second third = refl
  judged_for shape.Immediate opcode second third = refl
  judged_for shape.Zero opcode second third = refl
  judged_for shape.ZeroX opcode second third = refl
  judged_for shape.ZeroY opcode second third = refl
  judged_for shape.IndirectX opcode second third = refl
  judged_for shape.IndirectY opcode second third = refl
  judged_for shape.Relative opcode second third = refl
  judged_for shape.Absolute opcode second third = refl
  judged_for shape.AbsoluteX opcode second third = refl
  judged_for shape.AbsoluteY opcode second third = refl
  judged_for shape.Indirect opcode second third = refl

module _ (a : ℕ) (bytes : List ℕ) (small : Bytes bytes) (some : 0 < length bytes) where
  abbrev entry : Entry
  entry = decode (first bytes)

  abbrev m : ℕ
  m = name_at (low bytes) (high bytes) entry

  abbrev s : Shape
  s = shape_at (low bytes) (high bytes) entry

  -- an instruction that is whole
  again_whole : is_defined entry ≡ true → size_of entry ≤ length bytes →
      Again a bytes (record {
        size = size_of entry;
        text = instruction_line a (low bytes) (high bytes) (instruction_of entry (low bytes) (high bytes));
      })
  again_whole d l =
      let k = good_at (first bytes) (low bytes) (high bytes) (small 0) d in
      let plain = plain_append (letters_of m) (operand_text a (low bytes) (high bytes) s) (plain_letters m)
      (plain_operand a (low bytes) (high bytes) (small 1) (small 2) s) in
      let read : line_of a (letters_of m ++ operand_text a (low bytes) (high bytes) s) ≡
      Ok (line_for s (first bytes) (low bytes) (high bytes))
      = line_plain a (letters_of m ++ operand_text a (low bytes) (high bytes) s) plain
      ∙ name_read a m (operand_text a (low bytes) (high bytes) s) (read_as a (low bytes) (high bytes) s) k.named
      (begins a (low bytes) (high bytes) (small 1) (small 2) s) (operand_read a (low bytes) (high bytes) (small 1) (small 2) s)
      ∙ coded_read a m (low bytes) (high bytes) (small 1) (small 2) s (first bytes) k.opcode k.branch in
      record {
        plain = plain;
        makes =
            λ room n before go_on.
            ap (judged room n before go_on) read ∙ judged_for room n before go_on s (first bytes) (low bytes) (high bytes)
            ∙ ap (fitted room n before go_on) (takes bytes s (rw (← k.size) l) ∙ ap (λ (o : ℕ). take o bytes) (sym k.size));
      }

  -- a byte that starts none
  again_byte : Again a bytes (record { size = 1; text = said "BYTE $" ++ hex (first bytes) })
  again_byte =
      let plain = plain_byte (first bytes) (small 0) (said "BYTE $") [] refl refl in
      let read : line_of a (said "BYTE $" ++ hex (first bytes)) ≡ Ok (One (first bytes))
      = line_plain a (said "BYTE $" ++ hex (first bytes)) plain
      ∙ ap (with_operand a byte_name) (operand_read a (first bytes) 0 (small 0) (omega arith) shape.Zero)
      ∙ (rw (lt-ltb (first bytes) 256 (small 0))) in
      record {
        plain = plain;
        makes = λ room n before go_on. ap (judged room n before go_on) read ∙ ap (fitted room n before go_on) (takes_one bytes some);
      }

  again : Again a bytes (line_at a bytes)
  unfolding line_at
  again =
      if_case (Again a bytes) (is_defined entry && leb (size_of entry) (length bytes)) _ _
      (λ h. again_whole (and_left (is_defined entry) _ h) (leb-true _ _ (and_right (is_defined entry) _ h))) (λ h. again_byte)

bytes_behind : (l : List ℕ) (k : ℕ) → Bytes l → Bytes (drop k l)
bytes_behind l k h i = rw (get_or-drop k l i 0) (h (k + i))

-- "Addresses wrap at 65,536": behind some bytes, and some more
sum_more : (start n k : ℕ) → sum16 (sum16 start n) k ≡ sum16 start (n + k)
sum_more start n k = omega arith

module _ (start room : ℕ) where
  -- the lines of at most k bytes, behind those of the bytes before
  abbrev Trips : ℕ → Type 0
  Trips k =
      (n : ℕ) (before rest : List ℕ) → length rest ≤ k → Bytes rest → length before + length rest ≤ room →
      lines start room n before (lines_of (text_of (sum16 start (length before)) rest)) ≡ made (before ++ rest)

  over : (n : ℕ) (before : List ℕ) → lines start room n before (lines_of (text_of (sum16 start (length before)) [])) ≡ made (before ++ [])
  unfolding lines lines_of
  over n before =
      ap (λ (t : List ℕ). lines start room n before (lines_of t)) (text_none (sum16 start (length before)))
      ∙ ap made (sym (append-nil before))

  further : (k : ℕ) → Trips k → Trips (suc k)
  unfolding lines
  further k later n before [] h small fits = over n before
  further k later n before (b ∷ rest) h small fits =
      let all = b ∷ rest in
      let a = sum16 start (length before) in
      let l = line_at a all in
      let size = line_size a all (omega arith) in
      let one = again a all small (omega arith) in
      let rest' = drop l.size all in
      let part = take l.size all in
      let size-part : length part ≡ l.size = length-take-le l.size all size.1 in
      let size-rest : length rest' ≡ length all - l.size = length-drop l.size all in
      let next : sum16 a l.size ≡ sum16 start (length (before ++ part)) =
      sum_more start (length before) l.size
      ∙ ap (sum16 start) (sym (length-append before part ∙ ap (λ (o : ℕ). length before + o) size-part)) in
      let text : lines_of (text_of a all) ≡ l.text ∷ lines_of (text_of (sum16 start (length (before ++ part))) rest') =
      ap lines_of (text_first a all (omega arith)) ∙ lines_plain l.text (text_of (sum16 a l.size) rest') one.plain
      ∙ ap (λ (o : ℕ). l.text ∷ lines_of (text_of o rest')) next in
      let go_on : List ℕ → Made =
      λ bytes. lines start room (suc n) bytes (lines_of (text_of (sum16 start (length (before ++ part))) rest')) in
      let room-here : leb (length before + length part) room ≡ true =
      le-leb (length before + length part) room (omega (arith, size-part, size.1)) in
      ap (lines start room n before) text
      ∙ one.makes room n before go_on
      ∙ ap (λ (t : Bool). when t then go_on (before ++ part) else wrong Fault.NoRoom n) room-here
      ∙ later (suc n) (before ++ part) rest' (omega (arith, size-rest, size.0)) (bytes_behind all l.size small)
      (omega (arith, size-rest, size-part, size.1, length-append before part))
      ∙ ap made (append_assoc before part rest' ∙ ap (λ (t : List ℕ). before ++ t) (take-append-drop l.size all))

  none : Trips 0
  none n before [] h small fits = over n before
  none n before (b ∷ rest) h small fits = absurd (omega arith)

  trip : (k : ℕ) → Trips k
  trip zero = none
  trip (suc k) = further k (trip k)

  -- "What the lister writes assembles to the same bytes", for every byte string and start that fit their room
  pub listed_again : (bytes : List ℕ) → start < 65536 → Bytes bytes → length bytes ≤ room →
      assembled start room (text_of start bytes) ≡ made bytes
  listed_again bytes h small fits =
      let here : sum16 start 0 ≡ start = omega arith in
      ap (λ (a : ℕ). assembled start room (text_of a bytes)) (sym here) ∙ trip (length bytes) 1 [] bytes (omega arith) small (omega arith)

-- the same of the two calls: what one leaves in its buffer, the other takes
pub words_again : (start : ℕ) (bytes text buffer : List ℕ) → start < 65536 → Bytes bytes → length (text_of start bytes) ≤ length text →
    length bytes ≤ length buffer →
    assemble_words (take (length (text_of start bytes)) (list_words bytes start text).left) start buffer ≡
    record { word = told 0 (length bytes); left = front bytes buffer }
unfolding assemble_words list_words
words_again start bytes text buffer h small room fits =
    let all = text_of start bytes in
    let seam = take-append_seam all (drop (length all) text) in
    rw (le-leb (length all) (length text) room, seam, listed_again start (length buffer) bytes h small fits)
