-- The flags, and P as a byte.
use Rattle.std.specs.Prelude.{ℕ, ◌+◌, ◌*◌, Bool, leb, eqb}
use Rattle.rules.specs.declared.Flags.{Flags}
use Rattle.rules.specs.Basics.{bit, bit_of}

-- "P is N V 1 0 D I Z C from bit 7 down."
abbrev pub byte_of : Flags → ℕ
byte_of f = bit f.n * 128 + bit f.v * 64 + 32 + bit f.d * 8 + bit f.i * 4 + bit f.z * 2 + bit f.c

-- "P with bit 4 set": what BRK and PHP push
abbrev pub byte_of4 : Flags → ℕ
byte_of4 f = byte_of f + 16

-- a byte's flags; "PLP, RTI keep 5 set, 4 clear"
abbrev pub flags_of : ℕ → Flags
flags_of p = record { n = bit_of 128 p; v = bit_of 64 p; d = bit_of 8 p; i = bit_of 4 p; z = bit_of 2 p; c = bit_of 1 p }

-- N and Z of a byte
abbrev pub nz : ℕ → Flags → Flags
nz v f = record { n = leb 128 v; v = f.v; d = f.d; i = f.i; z = eqb v 0; c = f.c }

abbrev pub with_v : Bool → Flags → Flags
with_v b f = record { n = f.n; v = b; d = f.d; i = f.i; z = f.z; c = f.c }

abbrev pub with_d : Bool → Flags → Flags
with_d b f = record { n = f.n; v = f.v; d = b; i = f.i; z = f.z; c = f.c }

abbrev pub with_i : Bool → Flags → Flags
with_i b f = record { n = f.n; v = f.v; d = f.d; i = b; z = f.z; c = f.c }

abbrev pub with_c : Bool → Flags → Flags
with_c b f = record { n = f.n; v = f.v; d = f.d; i = f.i; z = f.z; c = b }
