-- Trees whose writes stay off the stack page, whatever bytes are read.
use Prim.Native.Nat.{ℕ, ◌/◌, ◌<◌}
use native.Mathlib.Omega.{arith}
use native.Mathlib.Decide.{dec_lt, ℕ_discrete}
use mathlib.Core.Path.{◌≡◌, refl, sym, ap, ◌∙◌}
use mathlib.Core.Bool.{true, false≢true}
use mathlib.Core.List.{List, []}
use borrow.Author.Tests.{ne_eqb}
use lib.ListN.{length, set, length-set}
use lib.Seq.{get_or-set_same, get_or-set_other, set_out}
use Rattle.rules.specs.Basics.{at}
use Rattle.rules.specs.Cycles.{Cycles, done, read, write, ◌>>=◌}
use Rattle.rules.specs.Bus.{is_protected}
use Rattle.laws.proofs.Tests.{if_case}
use Rattle.admission_rules.proofs.Stacks.{SamePage}
use Rattle.admission_rules.proofs.Ends.{written, ends}

abbrev pub OffPage : ℕ → Type 0
OffPage p = p / 256 ≡ 1 → ⊥

-- every write is off the stack page and writes a byte, and the result is as Q says, whatever bytes are read
abbrev pub Calm : {A : Type 0} → (A → Type 0) → Cycles A → Type 0
Calm Q (done x) = Q x
Calm Q (read why b p f) = (v : ℕ) → v < 256 → Calm Q (f v)
Calm Q (write why b p v t) = OffPage p × (v < 256) × Calm Q t

pub calm_bind : {A B : Type 0} (P : A → Type 0) (Q : B → Type 0) (t : Cycles A) (k : A → Cycles B) → Calm P t →
    ((x : A) → P x → Calm Q (k x)) → Calm Q (t >>= k)
unfolding ◌>>=◌
calm_bind P Q (done x) k c h = h x c
calm_bind P Q (read why b p f) k c h = λ v n. calm_bind P Q (f v) k (c v n) h
calm_bind P Q (write why b p v t) k (off, n, c) h = (off, n, calm_bind P Q t k c h)

-- what a write off the stack page leaves as it was
pub record Kept (c : ℕ) (m m' : List ℕ) : Type 0 where
  pub size : length m' ≡ length m
  pub bytes : (p : ℕ) → at m' p < 256
  pub stack_page : SamePage m m'
  pub protected_pages : (p : ℕ) → is_protected c p ≡ true → at m' p ≡ at m p

pub written_size : (c : ℕ) (m : List ℕ) (p v : ℕ) → length (written c m p v) ≡ length m
written_size c m p v = if_case (λ (l : List ℕ). length l ≡ length m) (is_protected c p) _ _ (λ h. refl) (λ h. length-set m p v)

pub written_protected : (c : ℕ) (m : List ℕ) (p v q : ℕ) → is_protected c q ≡ true → at (written c m p v) q ≡ at m q
written_protected c m p v q h =
    if_case (λ (l : List ℕ). at l q ≡ at m q) (is_protected c p) _ _ (λ g. refl)
    (λ g. get_or-set_other m p q v 0 (λ e. false≢true (sym g ∙ ap (is_protected c) (sym e) ∙ h)))

written_other : (c : ℕ) (m : List ℕ) (p v q : ℕ) → (q ≡ p → ⊥) → at (written c m p v) q ≡ at m q
written_other c m p v q d = if_case (λ (l : List ℕ). at l q ≡ at m q) (is_protected c p) _ _ (λ g. refl) (λ g. get_or-set_other m p q v 0 d)

pub set_byte : (m : List ℕ) (p v : ℕ) → v < 256 → ((q : ℕ) → at m q < 256) → (q : ℕ) → at (set m p v) q < 256
set_byte m p v n b q = go (ℕ_discrete q p) (dec_lt p (length m))
  where
    go : Dec (q ≡ p) → Dec (p < length m) → at (set m p v) q < 256
    go (no d) s = rw (get_or-set_other m p q v 0 d) (b q)
    go (yes e) (yes s) = rw (e, get_or-set_same m p v 0 s) n
    go (yes e) (no s) = rw (set_out m p v (omega arith)) (b q)

written_byte : (c : ℕ) (m : List ℕ) (p v : ℕ) → v < 256 → ((q : ℕ) → at m q < 256) → (q : ℕ) → at (written c m p v) q < 256
written_byte c m p v n b q = if_case (λ (l : List ℕ). at l q < 256) (is_protected c p) _ _ (λ g. b q) (λ g. set_byte m p v n b q)

-- a calm tree ends as Q says, and leaves the stack page and the protected pages as they were
pub record Calmly {A : Type 0} (Q : A → Type 0) (c : ℕ) (t : Cycles A) (m : List ℕ) : Type 0 where
  pub value : Q (ends c t m).value
  pub kept : Kept c m (ends c t m).image
  pub quiet : (ends c t m).writes ≡ []

pub calmly : {A : Type 0} (Q : A → Type 0) (c : ℕ) (t : Cycles A) (m : List ℕ) → ((p : ℕ) → at m p < 256) → Calm Q t → Calmly Q c t m
unfolding ends
calmly Q c (done x) m b q =
    record { value = q; kept = record { size = refl; bytes = b; stack_page = λ p h. refl; protected_pages = λ p h. refl }; quiet = refl }
calmly Q c (read why k p f) m b q =
    let r = calmly Q c (f (at m p)) m b (q (at m p) (b p)) in
    record { value = r.value; kept = r.kept; quiet = r.quiet }
calmly Q c (write why k p v t) m b (off, n, q) =
    let r = calmly Q c t (written c m p v) (written_byte c m p v n b) q in
    record {
      value = r.value;
      kept =
          record {
            size = r.kept.size ∙ written_size c m p v;
            bytes = r.kept.bytes;
            stack_page = λ q h. r.kept.stack_page q h ∙ written_other c m p v q (λ e. off (ap (λ (x : ℕ). x / 256) (sym e) ∙ h));
            protected_pages = λ q h. r.kept.protected_pages q h ∙ written_protected c m p v q h;
          };
      quiet = rw (ne_eqb (p / 256) 1 off) r.quiet;
    }
