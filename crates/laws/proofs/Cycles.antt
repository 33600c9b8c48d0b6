-- Laws of running any tree on any device.
use Prim.Native.Nat.{ℕ, zero, suc, ◌+◌, ◌≤◌}
use native.Mathlib.Omega.{arith}
use mathlib.Core.Path.{◌≡◌, refl, ap}
use mathlib.Core.Bool.{Bool, true, false}
use mathlib.Core.List.{List, [], ◌∷◌, ◌++◌}
use lib.ListN.{length}
use Rattle.rules.specs.Basics.{when◌then◌else◌}
use Rattle.rules.specs.Cycles.{Bank, Cycles, done, read, write, ◌>>=◌, Device, Access, Ran, listed, run}

-- one run, and then another from where it ended
abbrev pub joined : {W A B : Type 0} → Ran W A → Ran W B → Ran W B
joined r s = record { value = s.value; after = s.after; list = r.list ++ s.list }

pub run_bind : {W A B : Type 0} (d : Device W) (t : Cycles A) (k : A → Cycles B) (w : W) →
    run d (t >>= k) w ≡ joined (run d t w) (run d (k (run d t w).value) (run d t w).after)
unfolding run ◌>>=◌
run_bind d (done a) k w = refl
run_bind d (read why b p f) k w = ap (listed _) (run_bind d (f (d.look w b p)) k w)
run_bind d (write why b p v t) k w = ap (listed _) (run_bind d t k (d.stored w b p v))

-- what every write keeps, every tree keeps
pub run_keeps : {W A : Type 0} (d : Device W) (P : W → Type 0) → ((w : W) (b : Bank) (p v : ℕ) → P w → P (d.stored w b p v)) →
    (t : Cycles A) (w : W) → P w → P (run d t w).after
unfolding run
run_keeps d P k (done a) w h = h
run_keeps d P k (read why b p f) w h = run_keeps d P k (f (d.look w b p)) w h
run_keeps d P k (write why b p v t) w h = run_keeps d P k t (d.stored w b p v) (k w b p v h)

abbrev pub Each : {A : Type 0} → (A → Type 0) → List A → Type 0
Each Q [] = Unit {0}
Each Q (x ∷ l) = Q x × Each Q l

-- what holds of every bank while P does, holds of every bank listed
pub run_lists : {W A : Type 0} (d : Device W) (P : W → Type 0) → ((w : W) (b : Bank) (p v : ℕ) → P w → P (d.stored w b p v)) →
    (Q : ℕ → Type 0) → ((w : W) (b : Bank) → P w → Q (d.bank w b)) →
    (t : Cycles A) (w : W) → P w → Each (λ (a : Access). Q a.bank) (run d t w).list
unfolding run
run_lists d P k Q q (done a) w h = tt
run_lists d P k Q q (read why b p f) w h = (q w b h, run_lists d P k Q q (f (d.look w b p)) w h)
run_lists d P k Q q (write why b p v t) w h = (q w b h, run_lists d P k Q q t (d.stored w b p v) (k w b p v h))

-- a tree of at most n accesses
abbrev pub Most : {A : Type 0} → ℕ → Cycles A → Type 0
Most n (done a) = Unit {0}
Most zero (read why b p f) = ⊥
Most (suc n) (read why b p f) = (v : ℕ) → Most n (f v)
Most zero (write why b p v t) = ⊥
Most (suc n) (write why b p v t) = Most n t

pub most_le : {A : Type 0} (n m : ℕ) → n ≤ m → (t : Cycles A) → Most n t → Most m t
most_le n m h (done a) q = tt
most_le zero m h (read why b p f) q = absurd q
most_le (suc n) zero h (read why b p f) q = absurd (omega arith)
most_le (suc n) (suc m) h (read why b p f) q = λ v. most_le n m (omega arith) (f v) (q v)
most_le zero m h (write why b p v t) q = absurd q
most_le (suc n) zero h (write why b p v t) q = absurd (omega arith)
most_le (suc n) (suc m) h (write why b p v t) q = most_le n m (omega arith) t q

pub most_bind : {A B : Type 0} (n m : ℕ) (t : Cycles A) (k : A → Cycles B) → Most n t → ((a : A) → Most m (k a)) → Most (n + m) (t >>= k)
unfolding ◌>>=◌
most_bind n m (done a) k q r = most_le m (n + m) (omega arith) (k a) (r a)
most_bind zero m (read why b p f) k q r = absurd q
most_bind (suc n) m (read why b p f) k q r = go (λ v. most_bind n m (f v) k (q v) r)
  where
    go : ((v : ℕ) → Most (n + m) (f v >>= k)) → Most (suc n + m) (read why b p (λ v. f v >>= k))
    go h = let e : suc n + m ≡ suc (n + m) = omega arith in rw e h
most_bind zero m (write why b p v t) k q r = absurd q
most_bind (suc n) m (write why b p v t) k q r = go (most_bind n m t k q r)
  where
    go : Most (n + m) (t >>= k) → Most (suc n + m) (write why b p v (t >>= k))
    go h = let e : suc n + m ≡ suc (n + m) = omega arith in rw e h

pub most_if : {A : Type 0} (n : ℕ) (b : Bool) (t u : Cycles A) → Most n t → Most n u → Most n (when b then t else u)
most_if n true t u p q = p
most_if n false t u p q = q

pub most_length : {W A : Type 0} (d : Device W) (n : ℕ) (t : Cycles A) (w : W) → Most n t → length (run d t w).list ≤ n
unfolding run
most_length d n (done a) w q = omega arith
most_length d zero (read why b p f) w q = absurd q
most_length d (suc n) (read why b p f) w q = omega (arith, most_length d n (f (d.look w b p)) w (q (d.look w b p)))
most_length d zero (write why b p v t) w q = absurd q
most_length d (suc n) (write why b p v t) w q = omega (arith, most_length d n t (d.stored w b p v) q)

-- Two devices that answer alike, while R holds of them: every tree ends alike on both.
pub record Alike {U W : Type 0} (d : Device U) (e : Device W) (R : U → W → Type 0) : Type 0 where
  pub bank : (v : U) (w : W) → R v w → (b : Bank) → d.bank v b ≡ e.bank w b
  pub look : (v : U) (w : W) → R v w → (b : Bank) (p : ℕ) → d.look v b p ≡ e.look w b p
  pub stored : (v : U) (w : W) → R v w → (b : Bank) (p x : ℕ) → R (d.stored v b p x) (e.stored w b p x)

pub record Ended {U W A : Type 0} (R : U → W → Type 0) (x : Ran U A) (y : Ran W A) : Type 0 where
  pub value : x.value ≡ y.value
  pub after : R x.after y.after
  pub list : x.list ≡ y.list

ended_listed : {U W A : Type 0} {R : U → W → Type 0} {x : Ran U A} {y : Ran W A} (a b : Access) → a ≡ b → Ended R x y →
    Ended R (listed a x) (listed b y)
ended_listed a b e h = record { value = h.value; after = h.after; list = cc }

pub run_alike : {U W A : Type 0} {d : Device U} {e : Device W} {R : U → W → Type 0} → Alike d e R → (t : Cycles A) (v : U) (w : W) → R v w →
    Ended R (run d t v) (run e t w)
unfolding run
run_alike h (done x) v w r = record { value = refl; after = r; list = refl }
run_alike {d = d} {e = e} h (read why b p f) v w r =
    rw (h.look v w r b p) (ended_listed _ _ (rw (h.bank v w r b)) (run_alike h (f (e.look w b p)) v w r))
run_alike {d = d} {e = e} h (write why b p x t) v w r =
    ended_listed _ _ (rw (h.bank v w r b)) (run_alike h t (d.stored v b p x) (e.stored w b p x) (h.stored v w r b p x))
