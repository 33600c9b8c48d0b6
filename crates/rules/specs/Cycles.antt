-- What the processor does on the bus, as a tree: it ends, or it reads an address and goes on with what was read, or it writes and goes on.
-- Each access says what it is for.
-- The tree knows nothing of parts, ports, protection or lists: a device answers it.
use Rattle.std.specs.Prelude.{ℕ, List, [], ◌∷◌}
use Rattle.rules.specs.declared.Purpose.{Purpose}

-- which bank of a 6509 an access selects
pub data Bank : Type 0 where
  execution indirect : Bank

pub data Cycles (A : Type 0) : Type 0 where
  done : A → Cycles A
  read : Purpose → Bank → ℕ → (ℕ → Cycles A) → Cycles A
  write : Purpose → Bank → ℕ → ℕ → Cycles A → Cycles A

infixl 10 ◌>>=◌
infixl 10 ◌>>◌
-- one tree, and then another that may use its result
unfoldable pub ◌>>=◌ : {A B : Type 0} → Cycles A → (A → Cycles B) → Cycles B
done a >>= k = k a
read why b p f >>= k = read why b p (λ v. f v >>= k)
write why b p v t >>= k = write why b p v (t >>= k)

abbrev pub ◌>>◌ : {A B : Type 0} → Cycles A → Cycles B → Cycles B
t >> u = t >>= λ a. u

-- what answers accesses: the number of the bank that one selects, the byte that a read finds, and what a write leaves
pub record Device (W : Type 0) : Type 0 where
  pub bank : W → Bank → ℕ
  pub look : W → Bank → ℕ → ℕ
  pub stored : W → Bank → ℕ → ℕ → W

-- "Each cycle is one access": its address, selected bank and value, "0 read or 1 write", and what it was for
pub record Access : Type 0 where
  pub address : ℕ
  pub bank : ℕ
  pub value : ℕ
  pub kind : ℕ
  pub purpose : Purpose

-- a tree's result, what is left of the device, and the accesses made, in order
pub record Ran (W A : Type 0) : Type 0 where
  pub value : A
  pub after : W
  pub list : List Access

abbrev pub listed : {W A : Type 0} → Access → Ran W A → Ran W A
listed a r = record { value = r.value; after = r.after; list = a ∷ r.list }

unfoldable pub run : {W A : Type 0} → Device W → Cycles A → W → Ran W A
run d (done a) w = record { value = a; after = w; list = [] }
run d (read why b p f) w =
    listed (record { address = p; bank = d.bank w b; value = d.look w b p; kind = 0; purpose = why }) (run d (f (d.look w b p)) w)
run d (write why b p v t) w =
    listed (record { address = p; bank = d.bank w b; value = v; kind = 1; purpose = why }) (run d t (d.stored w b p v))
