-- What an accepted map says, rule by rule.
use Prim.Native.Nat.{ℕ, zero, suc, ◌+◌, ◌<◌, ◌≤◌}
use native.Mathlib.Omega.{arith}
use mathlib.Core.Path.{◌≡◌, refl}
use mathlib.Core.Bool.{Bool, true, false, ◌&&◌, ◌||◌, false≢true}
use mathlib.Core.List.{List}
use borrow.Author.Tests.{eqb-true, leb-true}
use lib.Dec.{eqb, leb}
use lib.ListN.{length}
use Rattle.std.specs.Prelude.{Ok}
use Rattle.rules.specs.Bus.{images}
use Rattle.admission_rules.specs.declared.Mark.{Mark}
use Rattle.admission_rules.specs.Admission.{main, handler, mark_at, marks_in, some, is_mark, vector_at, vectors_hold, rule_tests, admit}
use Rattle.laws.proofs.Tests.{and_left, and_right, Hold}
use Rattle.admission_rules.proofs.Admissions.{fits, accepted}
use Rattle.admission_rules.proofs.Stacks.{Leads}

-- one of the first n marks, as f says
pub record Found (f : Mark → Bool) (map : List ℕ) (n : ℕ) : Type 0 where
  pub i : ℕ
  pub within : i < n
  pub is : f (mark_at map i) ≡ true

pub some_found : (f : Mark → Bool) (map : List ℕ) (n : ℕ) → some f map n ≡ true → Found f map n
some_found f map zero h = absurd (false≢true h)
some_found f map (suc n) h = go (some_found f map n) (f (mark_at map n)) refl h
  where
    go : (some f map n ≡ true → Found f map n) → (b : Bool) → f (mark_at map n) ≡ b → (b || some f map n) ≡ true → Found f map (suc n)
    go rest true e h = record { i = n; within = omega arith; is = e }
    go rest false e h = let r = rest h in record { i = r.i; within = omega (arith, r.within); is = r.is }

-- a mark that was found, with what the test of its need says
pub leads : (map : List ℕ) (p kind height d e : ℕ) (i : ℕ) → i < marks_in map → is_mark p kind height (mark_at map i) ≡ true →
    (mark_at map i).need + d ≤ e → Leads map p kind height d e
leads map p kind height d e i w h n =
    let s = mark_at map i in
    let a = eqb s.address p in
    let k = eqb s.kind kind in
    let t = eqb s.height height in
    record {
      i = i;
      within = w;
      address = eqb-true _ _ (and_left a k (and_left (a && k) t h));
      kind = eqb-true _ _ (and_right a k (and_left (a && k) t h));
      height = eqb-true _ _ (and_right (a && k) t h);
      need = n;
    }

pub leads_to : (map : List ℕ) (p kind height d e : ℕ) →
    some (λ s. is_mark p kind height s && leb (s.need + d) e) map (marks_in map) ≡ true → Leads map p kind height d e
leads_to map p kind height d e h =
    let r = some_found (λ s. is_mark p kind height s && leb (s.need + d) e) map (marks_in map) h in
    let s = mark_at map r.i in
    leads map p kind height d e r.i r.within (and_left (is_mark p kind height s) (leb (s.need + d) e) r.is)
    (leb-true _ _ (and_right (is_mark p kind height s) (leb (s.need + d) e) r.is))

-- "accepts exactly when all the rules above hold": an image and a map of which they do
pub record Admitted (m : List ℕ) (c : ℕ) (map : List ℕ) : Type 0 where
  pub size : length m ≡ 65536
  pub least : 1 ≤ c
  pub most : c ≤ 254
  pub rules : (i : ℕ) → i < marks_in map → Hold (rule_tests images m c map i)
  -- the needs of the main program and of the handler
  pub N : ℕ
  pub H : ℕ
  pub starts : Leads map (vector_at images m 0xFFFC) main 0 0 N
  pub serves : Leads map (vector_at images m 0xFFFE) handler 0 0 H
  pub room : N + H + 3 ≤ 256

module _ (m : List ℕ) (c : ℕ) (map : List ℕ) where
  abbrev n : ℕ
  n = marks_in map

  abbrev is_main : Mark → Bool
  is_main r = is_mark (vector_at images m 0xFFFC) main 0 r

  abbrev is_handler : Mark → Bool
  is_handler h = is_mark (vector_at images m 0xFFFE) handler 0 h

  abbrev serves : Mark → Mark → Bool
  serves r h = is_handler h && leb (r.need + h.need + 3) 256

  pub admitted : admit images m c map ≡ Ok tt → Admitted m c map
  unfolding vectors_hold
  admitted e =
      let t = accepted images m c map e in
      let r = some_found (λ r. is_main r && some (serves r) map n) map n t.vectors in
      let main-mark = mark_at map r.i in
      let h = some_found (serves main-mark) map n (and_right (is_main main-mark) (some (serves main-mark) map n) r.is) in
      let mark = mark_at map h.i in
      let room : leb (main-mark.need + mark.need + 3) 256 ≡ true = and_right (is_handler mark) _ h.is in
      let i = fits m c map t.input in
      record {
        size = i.whole;
        least = i.least;
        most = i.most;
        rules = t.records;
        N = main-mark.need;
        H = mark.need;
        starts =
            leads map _ main 0 0 _ r.i r.within (and_left (is_main main-mark) (some (serves main-mark) map n) r.is) (omega arith);
        serves =
            leads map _ handler 0 0 _ h.i h.within (and_left (is_handler mark) (leb (main-mark.need + mark.need + 3) 256) h.is)
            (omega arith);
        room = leb-true _ _ room;
      }
