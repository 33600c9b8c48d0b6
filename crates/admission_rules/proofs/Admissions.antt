-- "it accepts exactly when all the rules above hold"
use Prim.Native.Nat.{ℕ, zero, suc, ◌+◌, ◌%◌, ◌<◌, ◌≤◌}
use native.Mathlib.Omega.{arith}
use native.Mathlib.Decide.{ℕ_discrete}
use mathlib.Core.Path.{◌≡◌}
use mathlib.Core.Bool.{true}
use mathlib.Core.List.{List, [], ◌∷◌, ◌++◌}
use borrow.Author.Tests.{eqb-true, leb-true}
use lib.Dec.{eqb, leb}
use lib.ListN.{length}
use Rattle.std.specs.Prelude.{Result, Ok, Err}
use Rattle.rules.specs.declared.Refusal.{Refusal}
use Rattle.rules.specs.Bus.{Memory, images}
use Rattle.rules.specs.Answers.{Test}
use Rattle.admission_rules.specs.Admission.{marks_in, of_records, mark_tests, input_fits, vectors_hold, rule_tests, admission_tests, admit}
use Rattle.laws.proofs.Tests.{six, Hold, tested_case, tested_all}

-- "image length, c, map length 0, over 65,536 or no multiple of 8", each part by itself
pub record Fit (size c marks : ℕ) : Type 0 where
  pub whole : size ≡ 65536
  pub least : 1 ≤ c
  pub most : c ≤ 254
  pub some : 1 ≤ marks
  pub few : marks ≤ 65536
  pub even : marks % 8 ≡ 0

pub fits : (m : List ℕ) (c : ℕ) (map : List ℕ) → input_fits images m c map ≡ true → Fit (length m) c (length map)
fits m c map h =
    let t = six (eqb (length m) 65536) (leb 1 c) (leb c 254) (leb 1 (length map)) (leb (length map) 65536) (eqb (length map % 8) 0) h in
    record {
      whole = eqb-true _ _ t.0;
      least = leb-true _ _ t.1;
      most = leb-true _ _ t.2;
      some = leb-true _ _ t.3;
      few = leb-true _ _ t.4;
      even = eqb-true _ _ t.5;
    }

pub hold_left : (s t : List Test) → Hold (s ++ t) → Hold s
hold_left [] t h = tt
hold_left (x ∷ s) t (e, h) = (e, hold_left s t h)

pub hold_right : (s t : List Test) → Hold (s ++ t) → Hold t
hold_right [] t h = h
hold_right (x ∷ s) t (e, h) = hold_right s t h

hold_both : (s t : List Test) → Hold s → Hold t → Hold (s ++ t)
hold_both [] t g h = h
hold_both (x ∷ s) t (e, g) h = (e, hold_both s t g h)

hold_at : (s t : List Test) (x : Test) → Hold (s ++ x ∷ t) → x.holds ≡ true
hold_at s t x h = (hold_right s (x ∷ t) h).0

hold_after : (s t : List Test) (x : Test) → Hold (s ++ x ∷ t) → Hold t
hold_after s t x h = (hold_right s (x ∷ t) h).1

-- all tests of n records from i on hold where those of each hold
records_hold : (f : ℕ → List Test) (i n : ℕ) → ((k : ℕ) → i ≤ k → k < i + n → Hold (f k)) → Hold (of_records f i n)
records_hold f i zero h = tt
records_hold f i (suc n) h =
    let here = h i (omega arith) (omega arith) in
    let later = records_hold f (suc i) n (λ k a b. h k (omega arith) (omega arith)) in
    search hold_both

record_holds : (f : ℕ → List Test) (i n : ℕ) → Hold (of_records f i n) → (k : ℕ) → i ≤ k → k < i + n → Hold (f k)
record_holds f i zero h k a b = absurd (omega arith)
record_holds f i (suc n) h k a b = go (ℕ_discrete k i) (record_holds f (suc i) n (search hold_right) k)
  where
    go : Dec (k ≡ i) → (suc i ≤ k → k < suc i + n → Hold (f k)) → Hold (f k)
    go (yes e) later = rw e (search hold_left)
    go (no e) later = later (omega arith) (omega arith)

module _ {M : Type 0} (memory : Memory M) (m : M) (c : ℕ) (map : List ℕ) where
  abbrev tests : List Test
  tests = admission_tests memory m c map

  abbrev n : ℕ
  n = marks_in map

  -- all the rules, with no order among them
  pub record AllRules : Type 0 where
    pub input : input_fits memory m c map ≡ true
    pub forms : (i : ℕ) → i < n → Hold (mark_tests map i)
    pub vectors : vectors_hold memory m map ≡ true
    pub records : (i : ℕ) → i < n → Hold (rule_tests memory m c map i)

  hold_all : AllRules → Hold tests
  hold_all a =
      let forms = records_hold (mark_tests map) 0 n (λ i l r. a.forms i (omega arith)) in
      let records = records_hold (rule_tests memory m c map) 0 n (λ i l r. a.records i (omega arith)) in
      search hold_both

  all_hold : Hold tests → AllRules
  all_hold h =
      record {
        input = h.0;
        forms = λ i l. record_holds (mark_tests map) 0 n (search hold_left) i (omega arith) (omega arith);
        vectors = search hold_at;
        records = λ i l. record_holds (rule_tests memory m c map) 0 n (search hold_after) i (omega arith) (omega arith);
      }

  pub accepts : AllRules → admit memory m c map ≡ Ok tt
  unfolding admit
  accepts a = tested_all tests Err (Ok tt) (hold_all a)

  pub accepted : admit memory m c map ≡ Ok tt → AllRules
  unfolding admit
  accepted =
      tested_case (λ (v : Result (Unit {0}) Refusal). v ≡ Ok tt → AllRules) tests Err (Ok tt)
      (λ e h. let z : ◌≡◌ {A = ℕ} 0 1 = cc in absurd (omega arith)) (λ h e. all_hold h)
