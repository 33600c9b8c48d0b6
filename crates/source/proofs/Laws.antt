-- A line by the instruction that stands there whole, and a text line by line.
use Rattle.std.proofs.Common.{◌≡◌, ℕ, ◌+◌, ◌<◌, ◌≤◌, Bool, true, false, not, ◌&&◌, eqb, ltb, leb, List, [], ◌∷◌, ◌++◌, length}
use Rattle.std.proofs.Common.{take, drop, set, sym, refl, ap, ◌∙◌, append_assoc, append-nil, add-one, arith, length-append}
use Rattle.std.proofs.Common.{length-take-le, take_all, get_or-take, ltb-false, ltb-true, le-leb}
use Rattle.std.proofs.Common.{leb-true, Option, Some, None, Result, Ok, Err}
use Prim.Native.Char.{code}
use lib.Seq.{sets}
use Rattle.rules.specs.declared.Instruction.{Instruction}
use Rattle.rules.specs.Basics.{when◌then◌else◌, at, sum16}
use Rattle.rules.specs.Opcodes.{Entry, undefined, Row, rows, among, decode, size_of, is_defined, instruction_of}
use Rattle.rules.specs.Step.{front}
use Rattle.rules.specs.Text.{hex}
use Rattle.laws.proofs.Lists.{sets_append}
use Rattle.assembly_rules.specs.declared.Fault.{Fault}
use Rattle.assembly_rules.specs.declared.Fault.TheVariants.{NoRoom}
use Rattle.assembly_rules.specs.Characters.{said}
use Rattle.assembly_rules.specs.Mnemonics.{name_of, shape_of}
use Rattle.assembly_rules.specs.Listing.{Listed, instruction_line, line_at, text_of, listing}
use Rattle.assembly_rules.proofs.Listings.{operand_width, text_first, text_none, text_anywhere}
use Rattle.characters.proofs.Laws.{sets_front, sets_more}
use Rattle.std.proofs.lemmas.List.{nil_from_length}
use mathlib.Core.List.{map}
use Rattle.source.specs.declared.Found.{Found}
use Rattle.source.specs.Lines.{size_by, size_with, count_with, text_with, find_in, Spells, Lists}

-- What is the same of each row's entry, and of an undefined one, is the same of every number's.
alike : {A : Type 0} (f g : Entry → A) (rs : List Row) → map (λ (r : Row). f r.entry) rs ≡ map (λ (r : Row). g r.entry) rs →
    f undefined ≡ g undefined → (n : ℕ) → f (among rs n) ≡ g (among rs n)
alike f g [] e u n = u
alike f g (r ∷ rs) e u n = go (eqb n r.opcode) (cc) (alike f g rs (cc) u n)
  where
    go : (b : Bool) → f r.entry ≡ g r.entry → f (among rs n) ≡ g (among rs n) →
        f (when b then r.entry else among rs n) ≡ g (when b then r.entry else among rs n)
    go true h k = h
    go false h k = k

-- The computed tests, of all rows: whether an instruction is defined, and its size, go by its name and shape.

module _ (low high : ℕ) where
  named : (n : ℕ) → is_defined (decode n) ≡ not (eqb (name_of (instruction_of (decode n) low high)) 0)
  unfolding decode
  named n = alike is_defined (λ (e : Entry). not (eqb (name_of (instruction_of e low high)) 0)) rows refl refl n

  sized : (n : ℕ) → size_of (decode n) ≡ size_by (shape_of (instruction_of (decode n) low high))
  unfolding decode
  sized n = alike size_of (λ (e : Entry). size_by (shape_of (instruction_of e low high))) rows refl refl n

abbrev line_with : ℕ → List ℕ → Option Found → Listed
line_with a rest found = record { size = size_with found; text = text_with a rest found }

line_is : (a : ℕ) (rest : List ℕ) → line_at a rest ≡ line_with a rest (find_in rest)
unfolding line_at
line_is a rest =
    let i = instruction_of (decode (at rest 0)) (at rest 1) (at rest 2) in
    let d = named (at rest 1) (at rest 2) (at rest 0) in
    let s = sized (at rest 1) (at rest 2) (at rest 0) in
    rw (d, s) (go i (eqb (name_of i) 0) (leb (size_by (shape_of i)) (length rest)))
  where
    go : (i : Instruction) (z t : Bool) →
        (when not z && t then record { size = size_by (shape_of i); text = instruction_line a (at rest 1) (at rest 2) i }
        else record { size = 1; text = said "BYTE $" ++ hex (at rest 0) })
        ≡ line_with a rest (when z then None else when t then Some (record { name = name_of i; shape = shape_of i }) else None)
    go i true true = refl
    go i true false = refl
    go i false true = refl
    go i false false = refl

-- its characters, with the LF
counted : (a : ℕ) (rest : List ℕ) (found : Option Found) → length (text_with a rest found) + 1 ≡ count_with found
counted a rest None = refl
counted a rest (Some f) = omega (arith, operand_width a (at rest 1) (at rest 2) f.shape)

pub some_left : {b : Bool} (l : List ℕ) → b ≡ eqb (length l) 0 → b ≡ false → 0 < length l
some_left [] e f = cc
some_left (c ∷ l) e f = omega arith

-- What some bytes are listed as is one line and the lines behind it.
module _ (rest : List ℕ) (some : 0 < length rest) {found : Option Found} (f : found ≡ find_in rest) where
  abbrev line : ℕ → List ℕ
  line a = text_with a rest found ++ code "\n" ∷ []

  line_first : (a : ℕ) → text_of a rest ≡ line a ++ text_of (sum16 a (size_with found)) (drop (size_with found) rest)
  line_first a =
      let first = text_first a rest some in
      (rw (line_is a rest, ← f) at first) ∙ sym (append_assoc (text_with a rest found) (code "\n" ∷ []) _)

  line_count : (a : ℕ) → length (line a) ≡ count_with found
  line_count a = length-append (text_with a rest found) (code "\n" ∷ []) ∙ counted a rest found

  pub longer : (a b : ℕ) → length (text_of a rest) ≡ count_with found + length (text_of b (drop (size_with found) rest))
  longer a b =
      omega (
        arith,
        ap length (line_first a),
        length-append (line a) (text_of (sum16 a (size_with found)) (drop (size_with found) rest)),
        line_count a,
        text_anywhere (sum16 a (size_with found)) b (drop (size_with found) rest),
      )

-- The lines are put.
pub record Putting (all t t' rest : List ℕ) (a p : ℕ) : Type 0 where
  pub done : List ℕ
  pub size : p ≡ length done
  pub whole : done ++ text_of a rest ≡ all
  pub text : t' ≡ sets t 0 done

module _ {all t t' rest : List ℕ} {a p : ℕ} (k : Putting all t t' rest a p) where
  module _ (some : 0 < length rest) {found : Option Found} (f : found ≡ find_in rest) where
    pub putting_room : p + count_with found ≤ length all
    putting_room =
        omega (arith, k.size, ap length k.whole, length-append k.done (text_of a rest), longer rest some f a a)

    pub putting_more : {l t'' : List ℕ} → Spells (text_with a rest found) (count_with found) l →
        t'' ≡ sets t' p (take (count_with found) l) →
        Putting all t t'' (drop (size_with found) rest) (sum16 a (size_with found)) (p + count_with found)
    putting_more e h =
        let x = line rest some f a in
        let z : 0 + length k.done ≡ length k.done = omega arith in
        let put = sym (sets_append k.done x t 0) in
        record {
          done = k.done ++ x;
          size = omega (arith, k.size, length-append k.done x, line_count rest some f a);
          whole = append_assoc k.done x _ ∙ ap (λ (m : List ℕ). k.done ++ m) (sym (line_first rest some f a)) ∙ k.whole;
          text = h ∙ (rw (e.text, k.text, k.size) (rw z at put));
        }

  pub putting_all : length rest ≡ 0 → t' ≡ sets t 0 all
  putting_all e =
      let over : text_of a rest ≡ [] = ap (text_of a) (nil_from_length rest e) ∙ text_none a in
      k.text ∙ ap (sets t 0) (sym (append-nil k.done) ∙ ap (λ (n : List ℕ). k.done ++ n) (sym over) ∙ k.whole)

-- What is answered.
module _ (start : ℕ) (bytes t : List ℕ) {r : Result ℕ Fault} (m : r ≡ listing (length (text_of 0 bytes)) (length t)) where
  abbrev text : List ℕ
  text = text_of start bytes

  answered : r ≡ listing (length text) (length t)
  answered = m ∙ (rw (text_anywhere 0 start bytes))

  pub fits : {count : ℕ} → r ≡ Ok count → length text ≤ length t
  fits {count = count} e = go (leb (length text) (length t)) refl (sym e ∙ answered)
    where
      go : (b : Bool) → leb (length text) (length t) ≡ b → Ok count ≡ (when b then Ok (length text) else Err NoRoom) →
          length text ≤ length t
      go true h g = leb-true (length text) (length t) h
      go false h g = cc

  pub lists_all : {count : ℕ} {t' : List ℕ} → r ≡ Ok count → t' ≡ sets t 0 text → Lists text (Ok count) t t'
  lists_all e h =
      record {
        answer = sym e ∙ answered;
        text = rw (le-leb (length text) (length t) (fits e)) (h ∙ sets_front text t (fits e));
      }

  pub lists_none : {f : Fault} → r ≡ Err f → Lists text (Err f) t t
  lists_none {f = f} e = record { answer = sym e ∙ answered; text = go (leb (length text) (length t)) (sym e ∙ answered) }
    where
      go : (b : Bool) → Err f ≡ (when b then Ok (length text) else Err NoRoom) → t ≡ (when b then front text t else t)
      go true g = cc
      go false g = refl

-- the first characters of a line, one by one
pub put_more : (t l : List ℕ) (p k count : ℕ) → count ≤ length l →
    (when ltb k count then set (sets t p (take k (take count l))) (p + k) (at l k) else sets t p (take k (take count l))) ≡
    sets t p (take (k + 1) (take count l))
put_more t l p k count h = go (ltb k count) refl
  where
    size : length (take count l) ≡ count
    size = length-take-le count l h

    go : (b : Bool) → ltb k count ≡ b →
        (when b then set (sets t p (take k (take count l))) (p + k) (at l k) else sets t p (take k (take count l))) ≡
        sets t p (take (k + 1) (take count l))
    go true e =
        let less = ltb-true k count e in
        rw (add-one k, ← get_or-take count l k 0 less) (sets_more t (take count l) p k (omega (arith, size, less)))
    go false e =
        let less = ltb-false k count e in
        rw (take_all k (take count l) (omega (arith, size)), take_all (k + 1) (take count l) (omega (arith, size)))
