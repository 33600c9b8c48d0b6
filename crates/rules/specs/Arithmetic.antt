-- What is computed of bytes and flags. A difference, which may be below zero, is kept with a fixed number added.
use Rattle.std.specs.Prelude.{ℕ, ◌+◌, ◌-◌, ◌*◌, ◌/◌, ◌%◌, Bool, not, ◌&&◌, ltb, leb, eqb}
use Rattle.std.specs.Int.Bits.{bit_and}
use Rattle.rules.specs.declared.Flags.{Flags}
use Rattle.rules.specs.declared.Flagged.{Flagged}
use Rattle.rules.specs.declared.Changing.{Changing}
use Rattle.rules.specs.declared.Changing.TheVariants.{Asl, Rol, Lsr, Ror, Dec, Inc}
use Rattle.rules.specs.Basics.{when◌then◌else◌, bit, bit_of, sum8}
use Rattle.rules.specs.Flags.{nz, with_v, with_c}

-- a byte read as signed, plus 128
abbrev pub signed : ℕ → ℕ
signed b = (b + 128) % 256

-- a sum of two signed bytes and more leaves -128..127; t is that sum plus 256
abbrev pub leaves : ℕ → Bool
leaves t = not (leb 128 t && ltb t 384)

-- "ADC and SBC set N, V, Z, C"
abbrev pub binary_adc : ℕ → ℕ → Flags → Flagged
binary_adc a m f =
    let c = bit f.c in
    let t = a + m + c in
    record { value = t % 256; flags = with_c (leb 256 t) (with_v (leaves (signed a + signed m + c)) (nz (t % 256) f)) }

-- "SBC subtracts 1 - C more": a - m - (1 - C) is a + (255 - m) + C less 256, and no borrow is a carry
abbrev pub binary_sbc : ℕ → ℕ → Flags → Flagged
binary_sbc a m f = binary_adc a (255 - m) f

-- "high digits (times 16)"
abbrev pub high : ℕ → ℕ
high a = a / 16 * 16

-- "L = low digits + C; if L is at least 10, L = (L + 6) mod 16 + 16."
unfoldable pub low_sum : ℕ → ℕ → ℕ → ℕ
low_sum a m c =
    let l = a % 16 + m % 16 + c in
    when leb 10 l then (l + 6) % 16 + 16 else l

-- "if T is at least 160, add 96"
unfoldable pub high_sum : ℕ → ℕ
high_sum t = when leb 160 t then t + 96 else t

-- "T = high digits (times 16) + L. N is bit 7 of T; V says that the same sum with the high parts read as signed bytes leaves
-- -128..127; if T is at least 160, add 96; C = T at least 256. Z is the binary sum's."
abbrev pub decimal_adc : ℕ → ℕ → Flags → Flagged
decimal_adc a m f =
    let l = low_sum a m (bit f.c) in
    let t = high a + high m + l in
    record {
      value = high_sum t % 256;
      flags =
          record {
            n = bit_of 128 t;
            v = leaves (signed (high a) + signed (high m) + l);
            d = f.d;
            i = f.i;
            z = (binary_adc a m f).flags.z;
            c = leb 256 (high_sum t);
          };
    }

-- "L = difference of low digits - (1 - C); if negative, L = (L - 6) mod 16 - 16", kept as L + 16: so -1 becomes 15, negative is under 16,
-- and (L - 6) mod 16 is (L + 16 + 10) mod 16
unfoldable pub low_difference : ℕ → ℕ → ℕ → ℕ
low_difference a m c =
    let l = 15 + a % 16 + c - m % 16 in
    when ltb l 16 then (l + 10) % 16 else l

-- "if negative, subtract 96", of T kept as T + 256: negative is under 256, and -96 is 160 modulo 256
unfoldable pub high_difference : ℕ → ℕ
high_difference t = (when ltb t 256 then t + 160 else t) % 256

-- "T likewise": T + 256 is 240 + high a + (L + 16) - high m. "All flags are the binary ones."
abbrev pub decimal_sbc : ℕ → ℕ → Flags → Flagged
decimal_sbc a m f =
    record {
      value = high_difference (240 + high a + low_difference a m (bit f.c) - high m);
      flags = (binary_sbc a m f).flags;
    }

abbrev pub adc : ℕ → ℕ → Flags → Flagged
adc a m f = when f.d then decimal_adc a m f else binary_adc a m f

abbrev pub sbc : ℕ → ℕ → Flags → Flagged
sbc a m f = when f.d then decimal_sbc a m f else binary_sbc a m f

-- "Compares set N, Z from the difference, C where no borrow."
abbrev pub compare : ℕ → ℕ → Flags → Flags
compare r m f = with_c (leb m r) (nz ((r + 256 - m) % 256) f)

-- "BIT takes N, V from memory, Z from the AND."
abbrev pub bit_test : ℕ → ℕ → Flags → Flags
bit_test a m f = record { n = bit_of 128 m; v = bit_of 64 m; d = f.d; i = f.i; z = eqb (bit_and a m) 0; c = f.c }

-- "Shifts set N, Z, C": the byte shifted, and the bit that fell out
abbrev pub shifted : ℕ → Bool → Flags → Flagged
shifted v out f = record { value = v; flags = with_c out (nz v f) }

-- "steps by one set N, Z"
abbrev pub by_one : ℕ → Flags → Flagged
by_one v f = record { value = v; flags = nz v f }

unfoldable pub changed : Changing → ℕ → Flags → Flagged
changed Asl v f = shifted (v * 2 % 256) (bit_of 128 v) f
changed Rol v f = shifted (v * 2 % 256 + bit f.c) (bit_of 128 v) f
changed Lsr v f = shifted (v / 2) (bit_of 1 v) f
changed Ror v f = shifted (v / 2 + bit f.c * 128) (bit_of 1 v) f
changed Dec v f = by_one (sum8 v 255) f
changed Inc v f = by_one (sum8 v 1) f
