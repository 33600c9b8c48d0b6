-- One turn of the loop over the records, and of the one over a record's successors.
use Rattle.std.proofs.Common.{◌≡◌, ℕ, suc, ◌+◌, ◌-◌, ◌<◌, ◌≤◌, true, false, List, [], ◌∷◌, length, get_or, drop}
use Rattle.std.proofs.Common.{Option, Some, None, Result, Ok, Err, refl, ◌∙◌, arith}
use Rattle.std.proofs.lemmas.List.{at_drop_more, drop_all}
use Rattle.rules.specs.declared.Refusal.{Refusal}
use Rattle.rules.specs.declared.Refusal.TheVariants as refusal
use Rattle.rules.specs.Basics.{when◌then◌else◌}
use Rattle.rules.specs.Answers.{Test, tested}
use Rattle.laws.proofs.Tests.{tested_append}
use Rattle.admission_rules.specs.declared.Successor.{Successor}
use Rattle.admission_rules.specs.declared.Successors.{Successors}
use Rattle.admission_rules.specs.declared.Successors.TheVariants as successors
use Rattle.admission_rules.specs.declared.Successors.TheVariants.{One, Two}
use Rattle.admission_rules.specs.Admission.{of_records, reached, tests_of}
use Rattle.admission.specs.Maps.{in_order}

abbrev pub Verdict : Type 0
Verdict = Result (Unit {0}) Refusal

-- the tests of the records from i on, of n, where v is what follows them
abbrev pub from : (ℕ → List Test) → ℕ → ℕ → Verdict → Verdict
from f i n v = tested (of_records f i (n - i)) Err v

module _ (f : ℕ → List Test) (i n : ℕ) (v : Verdict) where
  pub no_record : n ≤ i → from f i n v ≡ v
  no_record h = let e : n - i ≡ 0 = omega arith in rw e

  pub record_first : i < n → from f i n v ≡ tested (f i) Err (from f (i + 1) n v)
  record_first h =
      let e : n - i ≡ suc (n - (i + 1)) = omega arith in
      let s : i + 1 ≡ suc i = omega arith in
      rw (e, s) (tested_append (f i) (of_records f (suc i) (n - suc i)) Err v)

-- what the successors of record i come to, where w is what follows them
abbrev pub asked : List ℕ → ℕ → List (Option Successor) → Verdict → Verdict
asked map i [] w = w
asked map i (None ∷ l) w = asked map i l w
asked map i (Some s ∷ l) w = when reached map s then asked map i l w else Err (refusal.Successor i)

pub tests_asked : (map : List ℕ) (i : ℕ) (x : Successors) (w : Verdict) → tested (tests_of map i (Ok x)) Err w ≡ asked map i (in_order x) w
tests_asked map i successors.None w = refl
tests_asked map i (One s) w = refl
tests_asked map i (Two s t) w = refl

module _ (f : ℕ → List Test) (map : List ℕ) (i n : ℕ) (within : i < n) where
  -- record i breaks a rule of its own
  pub breaks : (e : Refusal) → f i ≡ tests_of map i (Err e) → from f i n (Ok tt) ≡ Err e
  breaks e is = record_first f i n (Ok tt) within ∙ (rw is)

  -- it keeps them, and its successors are next
  pub leads : (x : Successors) → f i ≡ tests_of map i (Ok x) → from f i n (Ok tt) ≡ asked map i (in_order x) (from f (i + 1) n (Ok tt))
  leads x is = record_first f i n (Ok tt) within ∙ (rw is (tests_asked map i x (from f (i + 1) n (Ok tt))))

-- one turn over the successors l, and the end
module _ (map : List ℕ) (i : ℕ) (x : Successors) (l : List (Option Successor)) (is : l ≡ in_order x) (k : ℕ) (w : Verdict) where
  two : (x : Successors) → length (in_order x) ≡ 2
  two successors.None = refl
  two (One s) = refl
  two (Two s t) = refl

  next : k < 2 → asked map i (drop k l) w ≡ asked map i (get_or l k None ∷ drop (k + 1) l) w
  next h = at_drop_more (λ r. asked map i r w) l k None (rw (is, two x) h)

  pub none_there : k < 2 → get_or l k None ≡ None → asked map i (drop k l) w ≡ asked map i (drop (k + 1) l) w
  none_there h e = next h ∙ (rw e)

  module _ (h : k < 2) (s : Successor) (e : get_or l k None ≡ Some s) where
    pub leads_on : reached map s ≡ true → asked map i (drop k l) w ≡ asked map i (drop (k + 1) l) w
    leads_on r = next h ∙ (rw (e, r))

    pub leads_astray : reached map s ≡ false → asked map i (drop k l) w ≡ Err (refusal.Successor i)
    leads_astray r = next h ∙ (rw (e, r))

  pub all_led : 2 ≤ k → asked map i (drop k l) w ≡ w
  all_led h = let e : drop k l ≡ [] = drop_all k l (rw (is, two x) h) in rw e
