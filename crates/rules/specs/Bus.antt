-- The bus: what an address reaches, what a read finds there, what a write changes, and the bytes of a listed access.
use Rattle.std.specs.Prelude.{ℕ, ◌+◌, ◌-◌, ◌*◌, ◌/◌, ◌%◌, Bool, ◌&&◌, ◌||◌, List, [], ◌∷◌, ◌++◌, ltb, leb, eqb, length, set}
use Rattle.std.specs.Int.Bits.{bit_and, bit_or}
use Rattle.rules.specs.declared.Bus.{Bus}
use Rattle.rules.specs.declared.Purpose.{Purpose}
use Rattle.rules.specs.declared.Purpose.TheVariants.{Opcode, Operand, Wasted, Pointer, Data, Stack, Vector}
use Rattle.rules.specs.Basics.{when◌then◌else◌, at}
use Rattle.rules.specs.Cycles.{Bank, execution, indirect, Device, Access}

-- "part (02, 08, 09)"
abbrev pub is6502 : ℕ → Bool
is6502 part = eqb part 0x02

abbrev pub is6508 : ℕ → Bool
is6508 part = eqb part 0x08

abbrev pub is6509 : ℕ → Bool
is6509 part = eqb part 0x09

-- "selected bank before the modulo (0 unless 6509)"; "0000 is the execution bank, 0001 the indirect bank"
unfoldable pub selected : Bus → Bank → ℕ
selected b k = when is6509 b.part then elim k [ execution ↦ b.first | indirect ↦ b.second ] else 0

-- What an address reaches: the register at 0000, the one at 0001, or a byte of the image.
pub data Cell : Type 0 where
  first second : Cell
  of_image : ℕ → Cell

-- 6509: "bank b is bank b modulo k of the image". 6508: "Addresses 0100 to 01FF reach image bytes 0 to 255".
unfoldable pub image_at : Bus → Bank → ℕ → ℕ
image_at b k p =
    when is6509 b.part then selected b k % b.banks * 65536 + p else when is6508 b.part && eqb (p / 256) 1 then p - 256 else p

-- the 6502 has no registers there; a 6509 has them "in every bank"
unfoldable pub cell_of : Bus → Bank → ℕ → Cell
cell_of b k p =
    let cell = of_image (image_at b k p) in
    when is6508 b.part || is6509 b.part then when eqb p 0 then first else when eqb p 1 then second else cell else cell

-- 6508: "Reading 0001 gives the output bit where direction is 1, the pin where it is 0."
abbrev pub port : Bus → ℕ
port b = bit_or (bit_and b.second b.first) (bit_and b.pins (255 - b.first))

-- 6509: "four bits; a write is listed whole, its high bits dropped and read as 0"
abbrev pub narrow : ℕ → ℕ → ℕ
narrow part v = when is6509 part then v % 16 else v

abbrev pub with_registers : ℕ → ℕ → Bus → Bus
with_registers f s b = record { part = b.part; first = f; second = s; pins = b.pins; protected = b.protected; banks = b.banks }

-- RES: "6508 registers 0 or 6509 registers 15"
unfoldable pub reset_bus : Bus → Bus
reset_bus b = let v : ℕ = when is6509 b.part then 15 else 0 in with_registers v v b

-- "The top c pages are write-protected, judged by the address on the bus"
abbrev pub is_protected : ℕ → ℕ → Bool
is_protected c p = leb (256 - c) (p / 256)

-- An image is kept in a list of bytes or, where examples are computed, in a chart.
pub record Memory (M : Type 0) : Type 0 where
  pub size : M → ℕ
  pub peek : M → ℕ → ℕ
  pub poke : M → ℕ → ℕ → M

abbrev pub images : Memory (List ℕ)
images = record { size = length; peek = at; poke = set }

pub record Chart : Type 0 where
  pub size : ℕ
  pub byte_at : ℕ → ℕ

-- a write past the end does nothing, as in a list
abbrev pub poked : Chart → ℕ → ℕ → Chart
poked f i v = record { size = f.size; byte_at = λ j. when eqb j i && ltb i f.size then v else f.byte_at j }

abbrev pub charts : Memory Chart
charts = record { size = λ f. f.size; peek = λ f i. f.byte_at i; poke = poked }

-- the bus and the image, as they stand
pub record World (M : Type 0) : Type 0 where
  pub bus : Bus
  pub image : M

abbrev pub world : {M : Type 0} → Bus → M → World M
world b m = record { bus = b; image = m }

module _ {M : Type 0} (memory : Memory M) where
  abbrev pub held : World M → Cell → ℕ
  held w first = w.bus.first
  held w second = when is6508 w.bus.part then port w.bus else w.bus.second
  held w (of_image n) = memory.peek w.image n

  -- "Register writes leave the image byte beneath unchanged."
  abbrev pub kept : World M → Cell → ℕ → World M
  kept w first v = world (with_registers (narrow w.bus.part v) w.bus.second w.bus) w.image
  kept w second v = world (with_registers w.bus.first (narrow w.bus.part v) w.bus) w.image
  kept w (of_image n) v = world w.bus (memory.poke w.image n v)

  unfoldable pub look : World M → Bank → ℕ → ℕ
  look w k p = held w (cell_of w.bus k p)

  -- "a write there is listed and changes nothing"
  unfoldable pub stored : World M → Bank → ℕ → ℕ → World M
  stored w k p v = when is_protected w.bus.protected p then w else kept w (cell_of w.bus k p) v

  abbrev pub board : Device (World M)
  board = record { bank = λ w. selected w.bus; look = look; stored = stored }

-- document 02: "1 opcode, 2 operand, 3 wasted, 4 pointer, 5 data, 6 stack, 7 vector"
abbrev pub purpose_number : Purpose → ℕ
purpose_number Opcode = 1
purpose_number Operand = 2
purpose_number Wasted = 3
purpose_number Pointer = 4
purpose_number Data = 5
purpose_number Stack = 6
purpose_number Vector = 7

-- "8 bytes: address low, high, selected bank before the modulo (0 unless 6509), value, 0 read or 1 write, three zeros"; document 02:
-- "Byte 5 of each access record becomes its purpose"
abbrev pub bytes_of : Access → List ℕ
bytes_of a = a.address % 256 ∷ a.address / 256 ∷ a.bank ∷ a.value ∷ a.kind ∷ purpose_number a.purpose ∷ 0 ∷ 0 ∷ []

unfoldable pub list_of : List Access → List ℕ
list_of [] = []
list_of (a ∷ l) = bytes_of a ++ list_of l
