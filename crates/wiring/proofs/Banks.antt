-- Where a bank begins: a mask does for the remainder, since the banks are a power of two.
use Prim.Native.Nat.{ℕ, ◌+◌, ◌-◌, ◌*◌, ◌/◌, ◌%◌, ◌^◌, ◌≤◌}
use native.Mathlib.Omega.{arith}
use mathlib.Core.Path.{◌≡◌, ap, sym, ◌∙◌}
use lib.Bits.{bit_and, and_mask, and_le_r, and_block}
use lib.Pow.{pow-add, mod-pow-add}
use Rattle.wiring.specs.Wiring.{Banked, banked}

masked : (b j size : ℕ) → size ≡ 2 ^ j * 65536 → bit_and (b * 65536) (size - 1) ≡ b % 2 ^ j * 65536
masked b j size e =
    let n = b * 65536 in
    let q : n / 65536 ≡ b = omega arith in
    let z : n % 65536 ≡ 0 = omega arith in
    let whole = e ∙ sym (pow-add 2 j 16) in
    let digits : n % 2 ^ (j + 16) ≡ n / 65536 % 2 ^ j * 65536 + n % 65536 = mod-pow-add n j 16 in
    let low : n / 65536 % 2 ^ j * 65536 + n % 65536 ≡ b % 2 ^ j * 65536 = rw (q, z) (omega arith) in
    ap (λ (x : ℕ). bit_and n (x - 1)) whole ∙ and_mask n (j + 16) ∙ digits ∙ low

pub base_is : (b size : ℕ) → Banked size → bit_and (b * 65536) (size - 1) ≡ b % (size / 65536) * 65536
base_is b size (banked j e) = let k : size / 65536 ≡ 2 ^ j = omega arith in rw k (masked b j size e)

-- whatever the banks are, it begins where a whole bank still fits
pub base_fits : (b size : ℕ) → 65536 ≤ size → size % 65536 ≡ 0 → bit_and (b * 65536) (size - 1) + 65536 ≤ size
base_fits b size some even =
    let k = size / 65536 in
    let top : size - 1 ≡ (k - 1) * 65536 + 65535 = omega arith in
    let low : b * 65536 ≡ b * 65536 + 0 = omega arith in
    let least = and_le_r b (k - 1) in
    let is : bit_and (b * 65536 + 0) ((k - 1) * 65536 + 65535) ≡ bit_and b (k - 1) * 65536 + 0 =
    and_block 16 b (k - 1) 0 65535 (omega arith) (omega arith) in
    rw (top, low, is) (omega arith)
