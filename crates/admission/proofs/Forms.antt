-- The forms of the records: where each is formed, the addresses ascend.
use Rattle.std.proofs.Common.{◌≡◌, ℕ, zero, suc, ◌+◌, ◌*◌, ◌<◌, ◌≤◌, Bool, true, false, ◌&&◌, eqb, leb, List, Err, refl, ◌∙◌}
use Rattle.std.proofs.Common.{arith, ltb-true}
use native.Mathlib.Nat.{sub-zero}
use native.Mathlib.Decide.{ℕ_discrete}
use Rattle.rules.specs.declared.Refusal.TheVariants.{MapRecord}
use Rattle.rules.specs.Basics.{when◌then◌else◌, at}
use Rattle.rules.specs.Answers.{tested}
use Rattle.admission_rules.specs.Admission.{main, handler, mark_at, marks_in, ascends, of_records, mark_tests}
use Rattle.laws.proofs.Tests.{and_right}
use Rattle.admission.specs.Maps.{shaped, formed, FormedBefore, Malformed, Ascending}
use Rattle.admission.proofs.Judged.{Verdict, from, no_record, record_first}

joined : {A : Type 0} (a b c d e f : Bool) (x y : A) →
    (when a && b then when c && d && e then when f then x else y else y else y) ≡ (when a && b && c && d && e && f then x else y)
joined true true true true true f x y = refl
joined true true true true false f x y = refl
joined true true true false e f x y = refl
joined true true false d e f x y = refl
joined true false c d e f x y = refl
joined false b c d e f x y = refl

module _ (map : List ℕ) where
  form_is : (i : ℕ) (v : Verdict) → tested (mark_tests map i) Err v ≡ (when formed map i then v else Err (MapRecord i))
  unfolding mark_tests
  form_is i v =
      joined (leb main (mark_at map i).kind) (leb (mark_at map i).kind handler) (eqb (at map (8 * i + 5)) 0) (eqb (at map (8 * i + 6)) 0)
      (eqb (at map (8 * i + 7)) 0) (ascends map i) v (Err (MapRecord i))

  -- the records before r are formed
  past : (r n : ℕ) (v : Verdict) → r ≤ n → FormedBefore map r →
      tested (of_records (mark_tests map) 0 n) Err v ≡ from (mark_tests map) r n v
  past zero n v h b = rw (sub-zero n)
  past (suc r) n v h b =
      let s : r + 1 ≡ suc r = omega arith in
      past r n v (omega arith) (λ k l. b k (omega arith)) ∙ record_first (mark_tests map) r n v (omega arith)
      ∙ form_is r (from (mark_tests map) (r + 1) n v) ∙ (rw (b r (omega arith), s))

  module _ (v : Verdict) where
    abbrev forms : Verdict
    forms = tested (of_records (mark_tests map) 0 (marks_in map)) Err v

    pub malformed : (r : ℕ) → Malformed map r → forms ≡ Err (MapRecord r)
    malformed r f =
        let later = from (mark_tests map) (r + 1) (marks_in map) v in
        let n = marks_in map in
        past r n v (omega (arith, f.within)) f.before ∙ record_first (mark_tests map) r n v f.within ∙ form_is r later ∙ (rw f.bad)

    pub all_formed : FormedBefore map (marks_in map) → forms ≡ v
    all_formed f = let n = marks_in map in past n n v (omega arith) f ∙ no_record (mark_tests map) n n v (omega arith)

  pub ascending : FormedBefore map (marks_in map) → Ascending map
  ascending f = record { ascends = go }
    where
      one : (k : ℕ) → suc k < marks_in map → (mark_at map k).address < (mark_at map (suc k)).address
      one k l = ltb-true _ _ (and_right (shaped map (suc k)) (ascends map (suc k)) (f (suc k) l))

      go : (j k : ℕ) → j < k → k < marks_in map → (mark_at map j).address < (mark_at map k).address
      go j zero l n = absurd (omega arith)
      go j (suc k) l n = last (λ q. go j k q (omega arith)) (ℕ_discrete j k)
        where
          last : (j < k → (mark_at map j).address < (mark_at map k).address) → Dec (j ≡ k) →
              (mark_at map j).address < (mark_at map (suc k)).address
          last rest (yes e) = rw e (one k n)
          last rest (no d) = omega (arith, rest (omega arith), one k n)
