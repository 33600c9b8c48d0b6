-- What is done with a byte, and what is done inside the processor, leaves bytes in the registers, S as it was and a set I set.
use Prim.Native.Nat.{ℕ, ◌<◌}
use native.Mathlib.Omega.{arith}
use mathlib.Core.Path.{◌≡◌, refl}
use mathlib.Core.Bool.{Bool, true}
use lib.Bits.{and_le_l, or_lt, xor_lt}
use Rattle.rules.specs.declared.Flags.{Flags}
use Rattle.rules.specs.declared.Flagged.{Flagged}
use Rattle.rules.specs.declared.Cpu.{Cpu}
use Rattle.rules.specs.declared.Reading.{Reading}
use Rattle.rules.specs.declared.Reading.TheVariants.{Ora, And, Eor, Adc, Lda, Cmp, Sbc, Ldx, Ldy, Cpx, Cpy, Bit}
use Rattle.rules.specs.declared.Storing.{Storing}
use Rattle.rules.specs.declared.Storing.TheVariants.{Sta, Stx, Sty}
use Rattle.rules.specs.declared.Changing.{Changing}
use Rattle.rules.specs.declared.Changing.TheVariants.{Asl, Rol, Lsr, Ror, Dec, Inc}
use Rattle.rules.specs.declared.Internal.{Internal}
use Rattle.rules.specs.declared.Internal.TheVariants.{Clc, Sec, Sei, Clv, Cld, Sed, Tax, Txa, Tay, Tya, Tsx, Inx, Iny, Dex, Dey, Nop}
use Rattle.rules.specs.Flags.{byte_of4}
use Rattle.rules.specs.Arithmetic.{adc, sbc, high_difference, changed}
use Rattle.rules.specs.Operations.{with_p, with_result, used, register_of, inside}
use Rattle.laws.proofs.Tests.{if_case}
use Rattle.laws.proofs.Records.{bit_most}
use Rattle.admission_rules.proofs.Places.{Bytes}

-- the registers d at PC n: S is s, the others are bytes, and I is set where flag says so
pub record To (s : ℕ) (flag : Bool) (n : ℕ) (d : Cpu) : Type 0 where
  pub pc : d.pc ≡ n
  pub stays : d.s ≡ s
  pub bytes : Bytes d
  pub masks : flag ≡ true → d.p.i ≡ true

-- the registers d after c, both at the same PC
abbrev pub On : Cpu → Cpu → Type 0
On c d = To c.s c.p.i c.pc d

on : (c : Cpu) (a x y : ℕ) (f : Flags) → Bytes c → a < 256 → x < 256 → y < 256 → (c.p.i ≡ true → f.i ≡ true) →
    On c (record { a = a; x = x; y = y; s = c.s; p = f; pc = c.pc })
on c a x y f b ha hx hy i = record { pc = refl; stays = refl; bytes = record { a = ha; x = hx; y = hy; s = b.s }; masks = i }

pub record Good (f : Flags) (r : Flagged) : Type 0 where
  pub value : r.value < 256
  pub flag : f.i ≡ true → r.flags.i ≡ true

adc_good : (a m : ℕ) (f : Flags) → Good f (adc a m f)
adc_good a m f =
    if_case (Good f) f.d _ _ (λ d. record { value = omega arith; flag = λ i. i }) (λ d. record { value = omega arith; flag = λ i. i })

sbc_good : (a m : ℕ) (f : Flags) → Good f (sbc a m f)
unfolding high_difference
sbc_good a m f =
    if_case (Good f) f.d _ _ (λ d. record { value = omega arith; flag = λ i. i }) (λ d. record { value = omega arith; flag = λ i. i })

pub changed_good : (o : Changing) (v : ℕ) (f : Flags) → v < 256 → Good f (changed o v f)
unfolding changed
changed_good Asl v f n = record { value = omega arith; flag = λ i. i }
changed_good Rol v f n = record { value = omega (arith, bit_most f.c); flag = λ i. i }
changed_good Lsr v f n = record { value = omega arith; flag = λ i. i }
changed_good Ror v f n = record { value = omega (arith, bit_most f.c); flag = λ i. i }
changed_good Dec v f n = record { value = omega arith; flag = λ i. i }
changed_good Inc v f n = record { value = omega arith; flag = λ i. i }

pub used_on : (o : Reading) (v : ℕ) (c : Cpu) → Bytes c → v < 256 → On c (used o v c)
unfolding used
used_on Ora v c b n = on c _ _ _ _ b (or_lt 8 c.a v b.a n) b.x b.y (λ i. i)
used_on And v c b n = on c _ _ _ _ b (omega (arith, and_le_l c.a v, b.a)) b.x b.y (λ i. i)
used_on Eor v c b n = on c _ _ _ _ b (xor_lt 8 c.a v b.a n) b.x b.y (λ i. i)
used_on Adc v c b n = let g = adc_good c.a v c.p in on c _ _ _ _ b g.value b.x b.y g.flag
used_on Lda v c b n = on c _ _ _ _ b n b.x b.y (λ i. i)
used_on Cmp v c b n = on c _ _ _ _ b b.a b.x b.y (λ i. i)
used_on Sbc v c b n = let g = sbc_good c.a v c.p in on c _ _ _ _ b g.value b.x b.y g.flag
used_on Ldx v c b n = on c _ _ _ _ b b.a n b.y (λ i. i)
used_on Ldy v c b n = on c _ _ _ _ b b.a b.x n (λ i. i)
used_on Cpx v c b n = on c _ _ _ _ b b.a b.x b.y (λ i. i)
used_on Cpy v c b n = on c _ _ _ _ b b.a b.x b.y (λ i. i)
used_on Bit v c b n = on c _ _ _ _ b b.a b.x b.y (λ i. i)

pub inside_on : (o : Internal) (c : Cpu) → Bytes c → On c (inside o c)
unfolding inside
inside_on Clc c b = on c _ _ _ _ b b.a b.x b.y (λ i. i)
inside_on Sec c b = on c _ _ _ _ b b.a b.x b.y (λ i. i)
inside_on Sei c b = on c _ _ _ _ b b.a b.x b.y (λ i. refl)
inside_on Clv c b = on c _ _ _ _ b b.a b.x b.y (λ i. i)
inside_on Cld c b = on c _ _ _ _ b b.a b.x b.y (λ i. i)
inside_on Sed c b = on c _ _ _ _ b b.a b.x b.y (λ i. i)
inside_on Tax c b = on c _ _ _ _ b b.a b.a b.y (λ i. i)
inside_on Txa c b = on c _ _ _ _ b b.x b.x b.y (λ i. i)
inside_on Tay c b = on c _ _ _ _ b b.a b.x b.a (λ i. i)
inside_on Tya c b = on c _ _ _ _ b b.y b.x b.y (λ i. i)
inside_on Tsx c b = on c _ _ _ _ b b.a b.s b.y (λ i. i)
inside_on Inx c b = on c _ _ _ _ b b.a (omega arith) b.y (λ i. i)
inside_on Iny c b = on c _ _ _ _ b b.a b.x (omega arith) (λ i. i)
inside_on Dex c b = on c _ _ _ _ b b.a (omega arith) b.y (λ i. i)
inside_on Dey c b = on c _ _ _ _ b b.a b.x (omega arith) (λ i. i)
inside_on Nop c b = on c _ _ _ _ b b.a b.x b.y (λ i. i)

pub register_byte : (o : Storing) (c : Cpu) → Bytes c → register_of o c < 256
register_byte Sta c b = b.a
register_byte Stx c b = b.x
register_byte Sty c b = b.y

pub same_on : (c : Cpu) → Bytes c → On c c
same_on c b = on c _ _ _ _ b b.a b.x b.y (λ i. i)

pub changed_on : (o : Changing) (v : ℕ) (c : Cpu) → Bytes c → v < 256 → On c (with_p (changed o v c.p).flags c)
changed_on o v c b n = on c _ _ _ _ b b.a b.x b.y (changed_good o v c.p n).flag

pub accumulator_on : (o : Changing) (c : Cpu) → Bytes c → On c (with_result (changed o c.a c.p) c)
accumulator_on o c b = let g = changed_good o c.a c.p b.a in on c _ _ _ _ b g.value b.x b.y g.flag

-- P with bit 4 set is a byte
pub p_byte : (f : Flags) → byte_of4 f < 256
p_byte f = omega (arith, bit_most f.n, bit_most f.v, bit_most f.d, bit_most f.i, bit_most f.z, bit_most f.c)
