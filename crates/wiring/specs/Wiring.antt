-- What a step knows of its bus before its first access, and when the sixteen bytes stand for a state.
use Rattle.std.specs.Prelude.{ℕ, ◌*◌, ◌/◌, ◌%◌, ◌^◌, ◌<◌, ◌≤◌, ◌≡◌, true, List}
use Rattle.rules.specs.declared.Bus.{Bus}
use Rattle.rules.specs.declared.State.{State}
use Rattle.rules.specs.Basics.{when◌then◌else◌}
use Rattle.rules.specs.Cycles.{Bank}
use Rattle.rules.specs.Bus.{is6502, is6508, is6509, selected}
use Rattle.rules.specs.Record.{register_fits, record_of}
use Rattle.wiring.specs.declared.bank.Wiring.{Wiring}

-- Addresses below this have a rule of the part's own: the registers, and the 6508's first pages.
abbrev pub plain_of : ℕ → ℕ
plain_of part = when is6502 part then 0 else when is6508 part then 512 else 2

-- "part (02, 08, 09)"
pub data Part (n : ℕ) : Type 0 where
  the6502 : n ≡ 2 → Part n
  the6508 : n ≡ 8 → Part n
  the6509 : n ≡ 9 → Part n

-- what a well-formed record says of its bus
pub record Sound (u : Bus) : Type 0 where
  pub part : Part u.part
  pub small : register_fits u.part u.first ≡ true
  pub pages : u.protected < 256

-- where a bank begins in the image
abbrev pub base_of : Bus → Bank → ℕ
base_of u κ = when is6509 u.part then selected u κ % u.banks * 65536 else 0

-- "k banks of that size, k = 1, 2, 4, 8 or 16": an image whose banks are a power of two
pub data Banked (size : ℕ) : Type 0 where
  banked : (j : ℕ) → size ≡ 2 ^ j * 65536 → Banked size

pub record Wired (κ : Bank) (w : Wiring) (u : Bus) : Type 0 where
  pub sound : Sound u
  pub pins : w.pins ≡ u.pins
  pub banked : Banked w.size
  pub banks : u.banks ≡ w.size / 65536
  pub bank : w.bank ≡ selected u κ
  pub plain : w.plain ≡ plain_of u.part
  pub base : w.base ≡ base_of u κ

-- the sixteen bytes r stand for the state s, whose accesses in the bank κ go by w
pub record Stands (κ : Bank) (s : State) (r : List ℕ) (w : Wiring) : Type 0 where
  pub bytes : r ≡ record_of s
  pub wired : Wired κ w s.bus

-- the lengths that an access needs: an image that holds every bank, and room for a step
pub record Ready (w : Wiring) (i l : ℕ) : Type 0 where
  pub image : w.size ≤ i
  pub room : 56 ≤ l
