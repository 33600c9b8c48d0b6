-- "Admission: 10; 11, first record; 12; then the lowest record, and at it the lowest number."
use Rattle.std.proofs.Common.{◌≡◌, ℕ, ◌/◌, ◌≤◌, true, false, List, ◌∷◌, length, Ok, Err, ◌∙◌, arith}
use Rattle.std.specs.Simd.{first_chunks}
use Rattle.rules.specs.declared.Refusal.TheVariants.{Admission, MapRecord, Vectors}
use Rattle.rules.specs.Answers.{◌unless◌, tested}
use Rattle.rules.specs.Bus.{images}
use Rattle.laws.proofs.Tests.{tested_append}
use Rattle.admission_rules.specs.Admission.{marks_in, of_records, mark_tests, input_fits, vectors_hold, rule_tests, admit}
use Rattle.admission_rules.proofs.Admissions.{fits}
use Rattle.admission.specs.Maps.{bytes_of, FormedBefore, Malformed}
use Rattle.admission.proofs.Chunks.{bytes_of-chunks}
use Rattle.admission.proofs.Judged.{Verdict}
use Rattle.admission.proofs.Forms.{malformed, all_formed}

module _ (m : List ℕ) (c : ℕ) (map : List ℕ) where
  pub unfit : input_fits images m c map ≡ false → admit images m c map ≡ Err Admission
  unfolding admit
  unfit h = rw h

  module _ (fit : input_fits images m c map ≡ true) where
    pub lengths_fit : (length m ≡ 65536) × (length map ≤ 65536)
    lengths_fit = let f = fits m c map fit in (f.whole, f.few)

    pub cut : (rs : List (List ℕ)) → rs ≡ first_chunks 8 (length map / 8) map → bytes_of rs ≡ map
    cut rs e = rw e (bytes_of-chunks (length map / 8) map (omega (arith, (fits m c map fit).even)))

    abbrev rest : Verdict
    rest = tested (Vectors unless vectors_hold images m map ∷ of_records (rule_tests images m c map) 0 (marks_in map)) Err (Ok tt)

    forms_first : admit images m c map ≡ tested (of_records (mark_tests map) 0 (marks_in map)) Err rest
    unfolding admit
    forms_first = rw fit (tested_append (of_records (mark_tests map) 0 (marks_in map)) _ Err (Ok tt))

    pub bad_record : (r : ℕ) → Malformed map r → admit images m c map ≡ Err (MapRecord r)
    bad_record r f = forms_first ∙ malformed map rest r f

    module _ (f : FormedBefore map (marks_in map)) where
      pub bad_vectors : vectors_hold images m map ≡ false → admit images m c map ≡ Err Vectors
      bad_vectors h = forms_first ∙ all_formed map rest f ∙ (rw h)

      pub records_left : vectors_hold images m map ≡ true →
          admit images m c map ≡ tested (of_records (rule_tests images m c map) 0 (marks_in map)) Err (Ok tt)
      records_left h = forms_first ∙ all_formed map rest f ∙ (rw h)
