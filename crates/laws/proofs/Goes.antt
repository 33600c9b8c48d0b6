-- How functions that follow a tree are put together.
use Prim.Native.Nat.{ℕ, ◌+◌, ◌*◌, ◌≤◌}
use native.Mathlib.Omega.{arith}
use mathlib.Core.Path.{◌≡◌, refl, sym, ap, ◌∙◌}
use mathlib.Core.List.{List, [], ◌∷◌, ◌++◌}
use lib.ListN.{length, take, drop, length-append}
use lib.Seq.{sets}
use Rattle.rules.specs.declared.Bus.{Bus}
use Rattle.rules.specs.Cycles.{Bank, Cycles, done, read, write, ◌>>=◌, Access, run}
use Rattle.rules.specs.Bus.{world, images, look, stored, selected, board, bytes_of, list_of}
use Rattle.laws.proofs.Cycles.{run_bind}
use Rattle.laws.proofs.Lists.{sets_append, sets_front}
use Rattle.rules.specs.declared.Cpu.{Cpu}
use Rattle.rules.specs.declared.State.{State}
use Rattle.rules.specs.declared.Purpose.{Purpose}
use Rattle.rules.specs.Record.{record_of}
use Rattle.laws.specs.Goes.{Goes, access, Does}
use Rattle.laws.specs.States.{moved}

list_append : (xs ys : List Access) → list_of (xs ++ ys) ≡ list_of xs ++ list_of ys
unfolding list_of
list_append [] ys = refl
list_append (x ∷ xs) ys = ap (λ (l : List ℕ). bytes_of x ++ l) (list_append xs ys)

list_long : (xs : List Access) → length (list_of xs) ≡ 8 * length xs
unfolding list_of
list_long [] = refl
list_long (x ∷ xs) = omega (arith, list_long xs)

-- two lists of accesses, one behind the other
entered : (xs ys : List Access) (l : List ℕ) (k : ℕ) →
    sets l (8 * k) (list_of (xs ++ ys)) ≡ sets (sets l (8 * k) (list_of xs)) (8 * (k + length xs)) (list_of ys)
entered xs ys l k =
    let e : 8 * (k + length xs) ≡ 8 * k + 8 * length xs = omega arith in
    rw (list_append xs ys, sets_append (list_of xs) (list_of ys) l (8 * k), list_long xs, e)

pub ended : {A : Type 0} {a : A} {k : ℕ} {u : Bus} {i l : List ℕ} → Goes (done a) k u i l a k u i l
unfolding run list_of
ended {k = k} = record { made = []; ran = refl; count = omega arith; listed = refl }

pub then_call : {A B : Type 0} {t : Cycles A} (f : A → Cycles B) {k n m : ℕ} {u u' u'' : Bus} {i l i' l' i'' l'' : List ℕ} {a : A} {b : B} →
    Goes t k u i l a n u' i' l' → Goes (f a) n u' i' l' b m u'' i'' l'' → Goes (t >>= f) k u i l b m u'' i'' l''
then_call {t = t} f {k = k} {u = u} {i = i} {l = l} d e =
    record {
      made = d.made ++ e.made;
      ran = run_bind (board images) t f (world u i) ∙ (rw d.ran (rw e.ran));
      count = rw (length-append d.made e.made) (omega (arith, d.count, e.count));
      listed = entered d.made e.made l k ∙ (rw (d.count, d.listed) e.listed);
    }

-- what a read and a write of the bus say
pub reads : (why : Purpose) (κ : Bank) (p v b k : ℕ) (u : Bus) (i l l' : List ℕ) → v ≡ look images (world u i) κ p → b ≡ selected u κ →
    l' ≡ sets l (8 * k) (bytes_of (access 0 why p b v)) → Goes (read why κ p done) k u i l v (k + 1) u i l'
unfolding run list_of
reads why κ p v b k u i l l' e d h =
    record { made = access 0 why p b v ∷ []; ran = rw (e, d); count = omega arith; listed = sym h }

pub writes : (why : Purpose) (κ : Bank) (p v b k : ℕ) (u u' : Bus) (i i' l l' : List ℕ) →
    stored images (world u i) κ p v ≡ world u' i' → b ≡ selected u κ → l' ≡ sets l (8 * k) (bytes_of (access 1 why p b v)) →
    Goes {A = Unit {0}} (write why κ p v (done tt)) k u i l tt (k + 1) u' i' l'
unfolding run list_of
writes why κ p v b k u u' i i' l l' e d h =
    record { made = access 1 why p b v ∷ []; ran = rw (e, d); count = omega arith; listed = sym h }

pub then_read : {A : Type 0} {why : Purpose} {κ : Bank} {p : ℕ} (f : ℕ → Cycles A) {k n m : ℕ} {u u' u'' : Bus}
    {i l i' l' i'' l'' : List ℕ} {v : ℕ} {a : A} →
    Goes (read why κ p done) k u i l v n u' i' l' → Goes (f v) n u' i' l' a m u'' i'' l'' → Goes (read why κ p f) k u i l a m u'' i'' l''
unfolding ◌>>=◌
then_read f d e = then_call f d e

pub then_write : {A : Type 0} {why : Purpose} {κ : Bank} {p v : ℕ} (t : Cycles A) {k n m : ℕ} {u u' u'' : Bus}
    {i l i' l' i'' l'' : List ℕ} {a : A} →
    Goes {A = Unit {0}} (write why κ p v (done tt)) k u i l tt n u' i' l' → Goes t n u' i' l' a m u'' i'' l'' →
    Goes (write why κ p v t) k u i l a m u'' i'' l''
unfolding ◌>>=◌
then_write t d e = then_call (λ x. t) d e

pub then_do : {B : Type 0} {t : Cycles (Unit {0})} (w : Cycles B) {k n m : ℕ} {u u' u'' : Bus} {i l i' l' i'' l'' : List ℕ} {b : B} →
    Goes t k u i l tt n u' i' l' → Goes w n u' i' l' b m u'' i'' l'' → Goes (t >>= λ x. w) k u i l b m u'' i'' l''
then_do w d e = then_call (λ x. w) d e

pub counted : {A : Type 0} {t : Cycles A} {k n m : ℕ} {u u' : Bus} {i l i' l' : List ℕ} {a : A} →
    Goes t k u i l a n u' i' l' → n ≡ m → Goes t k u i l a m u' i' l'
counted d e = record { made = d.made; ran = d.ran; count = d.count ∙ e; listed = d.listed }

-- accesses that are listed in a list's front are listed in the list
pub in_front : {A : Type 0} {t : Cycles A} {k n : ℕ} {u u' : Bus} {i i' l' : List ℕ} {a : A} (m : ℕ) (l : List ℕ) → 8 * n ≤ m →
    Goes t k u i (take m l) a n u' i' l' → Goes t k u i l a n u' i' (l' ++ drop m l)
in_front {k = k} m l h d =
    let long = list_long d.made in
    let within : 8 * k + length (list_of d.made) ≤ m = omega (arith, h, d.count, long) in
    record {
      made = d.made;
      ran = d.ran;
      count = d.count;
      listed = rw (← d.listed, sets_front (list_of d.made) l m (8 * k) within);
    }

pub valued : {A : Type 0} {t : Cycles A} {k n : ℕ} {u u' : Bus} {i l i' l' : List ℕ} {a b : A} →
    Goes t k u i l a n u' i' l' → a ≡ b → Goes t k u i l b n u' i' l'
valued d e = record { made = d.made; ran = d.ran ∙ (rw e); count = d.count; listed = d.listed }

-- registers written after accesses that leave the bus as it was
pub does : {t : Cycles Cpu} {k n : ℕ} (s : State) {i l r' i' l' : List ℕ} {c : Cpu} → r' ≡ record_of (moved c s.bus s) →
    Goes t k s.bus i l c n s.bus i' l' → Does t k s i l n r' i' l'
does s {c = c} e g = record { cpu = c; bus = s.bus; bytes = e; goes = g }

-- accesses that leave the bus as it was, and then an instruction's end
pub call_does : {A : Type 0} {t : Cycles A} (f : A → Cycles Cpu) {k n m : ℕ} {s : State} {i l i' l' r'' i'' l'' : List ℕ} {a : A} →
    Goes t k s.bus i l a n s.bus i' l' → Does (f a) n s i' l' m r'' i'' l'' → Does (t >>= f) k s i l m r'' i'' l''
call_does f d e = record { cpu = e.cpu; bus = e.bus; bytes = e.bytes; goes = then_call f d e.goes }

pub do_does : {t : Cycles (Unit {0})} (w : Cycles Cpu) {k n m : ℕ} {s : State} {i l i' l' r'' i'' l'' : List ℕ} →
    Goes t k s.bus i l tt n s.bus i' l' → Does w n s i' l' m r'' i'' l'' → Does (t >>= λ x. w) k s i l m r'' i'' l''
do_does w d e = call_does (λ x. w) d e

pub read_does : {why : Purpose} {κ : Bank} {p : ℕ} (f : ℕ → Cycles Cpu) {k n m : ℕ} {s : State} {i l i' l' r'' i'' l'' : List ℕ} {v : ℕ} →
    Goes (read why κ p done) k s.bus i l v n s.bus i' l' → Does (f v) n s i' l' m r'' i'' l'' → Does (read why κ p f) k s i l m r'' i'' l''
unfolding ◌>>=◌
read_does f d e = call_does f d e
