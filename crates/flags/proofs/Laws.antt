-- P leaves room for bit 4.
use Prim.Native.Nat.{◌+◌, ◌≤◌}
use native.Mathlib.Omega.{arith}
use mathlib.Core.Bool.{Bool, true, false}
use Rattle.rules.specs.declared.Flags.{Flags}
use Rattle.rules.specs.Basics.{bit}
use Rattle.rules.specs.Flags.{byte_of}

bit_most : (b : Bool) → bit b ≤ 1
bit_most true = omega arith
bit_most false = omega arith

pub byte_most : (f : Flags) → byte_of f + 16 ≤ 255
byte_most f =
    let n = bit_most f.n in
    let v = bit_most f.v in
    let d = bit_most f.d in
    let i = bit_most f.i in
    let z = bit_most f.z in
    let c = bit_most f.c in
    omega arith
