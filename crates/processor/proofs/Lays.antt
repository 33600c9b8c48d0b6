-- A store or a change, and its mode.
use Rattle.std.proofs.Common.{◌≡◌, ℕ, ◌+◌, ◌≤◌, true, List, sym, ap, ◌∙◌, arith, leb-true}
use Rattle.rules.specs.declared.Changing.{Changing}
use Rattle.rules.specs.declared.Storing.{Storing}
use Rattle.rules.specs.declared.Mode.{Mode}
use Rattle.rules.specs.declared.State.{State}
use Rattle.rules.specs.declared.Instruction.{Instruction}
use Rattle.rules.specs.declared.Instruction.TheVariants.{Store, Change}
use Rattle.laws.proofs.Lengths.{place_most}
use Rattle.wiring.specs.declared.bank.Wiring.{Wiring}
use Rattle.processor.specs.Begun.{short}
use Rattle.processor.specs.Laid.{Lays, stores, changes}
use Rattle.processor.specs.Rest.{high_in, high_of, Fetched}
use Rattle.laws.specs.Sizes.{mode_size}

pub as_store : {i : Instruction} {m n : Mode} {o : Storing} → i ≡ Store o n → m ≡ n → Lays i m
as_store {o = o} e z = stores o (e ∙ ap (Store o) (sym z))

pub as_change : {i : Instruction} {m n : Mode} {o : Changing} → i ≡ Change o n → m ≡ n → Lays i m
as_change {o = o} e z = changes o (e ∙ ap (Change o) (sym z))

pub is_store : {i : Instruction} {m m' : Mode} {o : Storing} → Lays i m → i ≡ Store o m' → i ≡ Store o m
is_store (stores p e) d = cc
is_store (changes p e) d = let z : ◌≡◌ {A = ℕ} 0 1 = cc in absurd (omega arith)

pub is_change : {i : Instruction} {m m' : Mode} {o : Changing} → Lays i m → i ≡ Change o m' → i ≡ Change o m
is_change (stores p e) d = let z : ◌≡◌ {A = ℕ} 0 1 = cc in absurd (omega arith)
is_change (changes p e) d = cc

-- three accesses are left where a change has found its place
pub three_left : {i : Instruction} {m : Mode} {o : Changing} → i ≡ Change o m → short i ≡ true → mode_size m + place_most m ≤ 4
three_left {m = m} e h = leb-true (mode_size m + place_most m) 4 (rw e at h)

-- no other instruction does so: what is said of all others is wrong of it
pub lays_only : {i : Instruction} {m : Mode} (P : Instruction → Type 0) → ((o : Storing) → P (Store o m) → ⊥) →
    ((o : Changing) → P (Change o m) → ⊥) → Lays i m → P i → ⊥
lays_only P f g (stores o e) h = f o (rw e at h)
lays_only P f g (changes o e) h = g o (rw e at h)

pub lays_fetched : {i : Instruction} {m : Mode} {s : State} {r j : List ℕ} {w : Wiring} {pc : ℕ} → Lays i m →
    Fetched (high_of i) s r j w pc → Fetched (high_in m) s r j w pc
lays_fetched (stores o e) h = rw e at h
lays_fetched (changes o e) h = rw e at h
