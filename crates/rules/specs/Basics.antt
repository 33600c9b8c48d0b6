-- Choosing by a Bool; bits, bytes and addresses.
use Rattle.std.specs.Prelude.{ℕ, zero, suc, ◌+◌, ◌*◌, ◌/◌, ◌%◌, Bool, true, false, ◌&&◌, List, eqb, get_or}

infixr 5 when◌then◌else◌
abbrev pub when◌then◌else◌ : {A : Type 0} → Bool → A → A → A
when true then x else y = x
when false then x else y = y

-- the test passes at each number below n
abbrev pub all : ℕ → (ℕ → Bool) → Bool
all zero f = true
all (suc n) f = f n && all n f

abbrev pub bit : Bool → ℕ
bit true = 1
bit false = 0

-- the bit of n that has this weight
abbrev pub bit_of : ℕ → ℕ → Bool
bit_of weight n = eqb (n / weight % 2) 1

-- byte k of a slice
abbrev pub at : List ℕ → ℕ → ℕ
at l k = get_or l k 0

-- an address of its low and its high byte
abbrev pub address : ℕ → ℕ → ℕ
address low high = high * 256 + low

-- "PC, S and zero-page sums wrap, as do address sums."
abbrev pub sum8 : ℕ → ℕ → ℕ
sum8 a i = (a + i) % 256

abbrev pub sum16 : ℕ → ℕ → ℕ
sum16 a i = (a + i) % 65536
