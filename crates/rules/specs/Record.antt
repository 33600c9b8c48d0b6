-- The state record: "16 bytes, no header".
use Rattle.std.specs.Prelude.{ℕ, ◌+◌, ◌*◌, ◌/◌, ◌%◌, Bool, true, ◌&&◌, ◌||◌, List, [], ◌∷◌, leb, eqb}
use Rattle.rules.specs.declared.State.{State}
use Rattle.rules.specs.Basics.{when◌then◌else◌, bit, at, address}
use Rattle.rules.specs.Flags.{byte_of, flags_of}
use Rattle.rules.specs.Bus.{is6502, is6508, is6509}

-- four bytes, "low byte first"
abbrev pub long : ℕ → ℕ → ℕ → ℕ → ℕ
long b0 b1 b2 b3 = b0 + 256 * b1 + 65536 * b2 + 16777216 * b3

-- "12 to 15 cycle count"
abbrev pub cycles_in : List ℕ → ℕ
cycles_in r = long (at r 12) (at r 13) (at r 14) (at r 15)

-- "0 part (02, 08, 09); 1 A; 2 X; 3 Y; 4 S; 5 P; 6, 7 PC low, high; 8, 9 the registers at 0000 and 0001; 10 last NMI level (0 or 1);
-- 11 protected pages c". The pins and the image's banks come from beside the record.
unfoldable pub state_of : List ℕ → ℕ → ℕ → State
state_of r pins banks =
    record {
      cpu = record { a = at r 1; x = at r 2; y = at r 3; s = at r 4; p = flags_of (at r 5); pc = address (at r 6) (at r 7) };
      bus = record { part = at r 0; first = at r 8; second = at r 9; pins = pins; protected = at r 11; banks = banks };
      nmi = eqb (at r 10) 1;
      cycles = cycles_in r;
    }

unfoldable pub record_of : State → List ℕ
record_of u =
    let c = u.cpu in
    let b = u.bus in
    let n = u.cycles in
    b.part ∷ c.a ∷ c.x ∷ c.y ∷ c.s ∷ byte_of c.p ∷ c.pc % 256 ∷ c.pc / 256 ∷ b.first ∷ b.second ∷ bit u.nmi ∷ b.protected ∷
    n % 256 ∷ n / 256 % 256 ∷ n / 65536 % 256 ∷ n / 16777216 ∷ []

-- "0 part (02, 08, 09)"
abbrev pub part_fits : ℕ → Bool
part_fits part = is6502 part || is6508 part || is6509 part

-- "P is N V 1 0 D I Z C": bit 5 is 1, bit 4 is 0
abbrev pub flags_fit : ℕ → Bool
flags_fit p = eqb (p / 16 % 4) 2

-- "Bytes 8, 9 are 0 on the 6502, at most 15 on the 6509."
abbrev pub register_fits : ℕ → ℕ → Bool
register_fits part v = when is6502 part then eqb v 0 else when is6509 part then leb v 15 else true

-- "last NMI level (0 or 1)"; "Byte 10 is 0 on the 6508"
abbrev pub level_fits : ℕ → ℕ → Bool
level_fits part v = when is6508 part then eqb v 0 else leb v 1

-- "byte 11 is 0 on the 6509"
abbrev pub pages_fit : ℕ → ℕ → Bool
pages_fit part c = when is6509 part then eqb c 0 else true

-- "Anything else is malformed."
unfoldable pub well_formed : List ℕ → Bool
well_formed r =
    let part = at r 0 in
    part_fits part && flags_fit (at r 5) && register_fits part (at r 8) && register_fits part (at r 9) && level_fits part (at r 10)
    && pages_fit part (at r 11)
