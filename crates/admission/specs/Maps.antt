-- What is known of a map once its records have been looked at.
use Rattle.std.specs.Prelude.{◌≡◌, ℕ, ◌+◌, ◌*◌, ◌<◌, ◌≤◌, Bool, true, false, ◌&&◌, List, [], ◌∷◌, length, ◌==◌, nat_le, Option, Some, None}
use Rattle.std.specs.Option.{option_map_or}
use Rattle.rules.specs.Basics.{at, address}
use Rattle.admission_rules.specs.declared.Mark.{Mark}
use Rattle.admission_rules.specs.declared.Successor.{Successor}
use Rattle.admission_rules.specs.declared.Successors.{Successors}
use Rattle.admission_rules.specs.declared.Successors.TheVariants as successors
use Rattle.admission_rules.specs.declared.Successors.TheVariants.{One, Two}
use Rattle.admission_rules.specs.Admission.{main, handler, mark_at, marks_in, marked, is_mark, ascends}

-- the bytes of a map that was cut into records of eight
abbrev pub bytes_of : List (List ℕ) → List ℕ
bytes_of [] = []
bytes_of (r ∷ rs) = at r 0 ∷ at r 1 ∷ at r 2 ∷ at r 3 ∷ at r 4 ∷ at r 5 ∷ at r 6 ∷ at r 7 ∷ bytes_of rs

-- a record as a mark
abbrev pub mark_of : List ℕ → Mark
mark_of r = record { address = address (at r 0) (at r 1); kind = at r 2; height = at r 3; need = at r 4 }

-- the tests of its form, together
abbrev pub shaped_of : List ℕ → Bool
shaped_of r = nat_le main (at r 2) && nat_le (at r 2) handler && at r 5 == 0 && at r 6 == 0 && at r 7 == 0

-- those of record i of a map
abbrev pub shaped : List ℕ → ℕ → Bool
shaped map i =
    let kind = (mark_at map i).kind in
    nat_le main kind && nat_le kind handler && at map (8 * i + 5) == 0 && at map (8 * i + 6) == 0 && at map (8 * i + 7) == 0

abbrev pub formed : List ℕ → ℕ → Bool
formed map i = shaped map i && ascends map i

-- the records before r are formed
abbrev pub FormedBefore : List ℕ → ℕ → Type 0
FormedBefore map r = (k : ℕ) → k < r → formed map k ≡ true

-- r is the first record that is not formed
pub record Malformed (map : List ℕ) (r : ℕ) : Type 0 where
  pub within : r < marks_in map
  pub before : FormedBefore map r
  pub bad : formed map r ≡ false

-- the first record that is not formed, or none
abbrev pub Formed : List ℕ → Option ℕ → Type 0
Formed map (Some r) = Malformed map r
Formed map None = FormedBefore map (marks_in map)

-- "strictly ascending address"
pub record Ascending (map : List ℕ) : Type 0 where
  pub ascends : (j k : ℕ) → j < k → k < marks_in map → (mark_at map j).address < (mark_at map k).address

-- records that make a map of at most 65,536 bytes
pub record IsMap (records : List (List ℕ)) : Type 0 where
  pub few : length records ≤ 8192
  pub ascending : Ascending (bytes_of records)

-- the addresses below r are below p, and the others are not
pub record Found (map : List ℕ) (p r : ℕ) : Type 0 where
  pub within : r ≤ marks_in map
  pub below : (k : ℕ) → k < r → (mark_at map k).address < p
  pub above : (k : ℕ) → r ≤ k → k < marks_in map → p ≤ (mark_at map k).address

-- r is the need of the mark of p with this kind and height, if there is one: a test of needs says the same of r as of the map
pub record NeedAt (map : List ℕ) (p kind height : ℕ) (r : Option ℕ) : Type 0 where
  pub tells : (f : ℕ → Bool) → option_map_or f r false ≡ (marked map λ s. is_mark p kind height s && f s.need)

-- a record's successors, one after the other
abbrev pub in_order : Successors → List (Option Successor)
in_order successors.None = None ∷ None ∷ []
in_order (One s) = Some s ∷ None ∷ []
in_order (Two s t) = Some s ∷ Some t ∷ []
