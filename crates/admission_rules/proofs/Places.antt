-- Loads give bytes, and by the rules of the map the data of a store, shift, INC or DEC is off the stack page.
use Prim.Native.Nat.{ℕ, ◌+◌, ◌<◌, ◌≤◌}
use native.Mathlib.Omega.{arith}
use native.Mathlib.Decide.{dec_le}
use mathlib.Core.Path.{◌≡◌, refl}
use mathlib.Core.Bool.{Bool, true, false, not, ◌&&◌, false≢true}
use mathlib.Core.List.{List}
use borrow.Author.Tests.{le-leb}
use lib.Dec.{leb}
use Rattle.rules.specs.declared.Cpu.{Cpu}
use Rattle.rules.specs.declared.Mode.{Mode}
use Rattle.rules.specs.declared.Mode.TheVariants.{Immediate, Zero, ZeroX, ZeroY, Absolute, AbsoluteX, AbsoluteY, IndirectX, IndirectY}
use Rattle.rules.specs.declared.Mode.TheVariants.{IndirectBankY}
use Rattle.rules.specs.declared.Refusal.{Refusal}
use Rattle.rules.specs.declared.Refusal.TheVariants.{StoreAddress}
use Rattle.rules.specs.Basics.{when◌then◌else◌, address, sum16}
use Rattle.rules.specs.Cycles.{Bank, execution, indirect, ◌>>=◌}
use Rattle.rules.specs.Addressing.{load, place, pointer, zero_indexed, indexed, crosses, load_indexed}
use Rattle.admission_rules.specs.declared.Successor.{Successor}
use Rattle.std.specs.Prelude.{Ok, Err}
use Rattle.std.specs.Result.{result_and}
use Rattle.admission_rules.specs.Admission.{Rules, reached, tests_of, one, outside, store_rules}
use Rattle.laws.proofs.Tests.{Hold, if_case}
use Rattle.admission_rules.proofs.Calm.{OffPage, Calm}

-- an operand that is data or an address of page zero is a byte; a base has 16 bits
abbrev pub Small : Mode → Type 0
Small (Immediate v) = v < 256
Small (Zero z) = z < 256
Small (ZeroX z) = Unit {0}
Small (ZeroY z) = Unit {0}
Small (Absolute low high) = Unit {0}
Small (AbsoluteX low high) = address low high < 65536
Small (AbsoluteY low high) = address low high < 65536
Small (IndirectX z) = Unit {0}
Small (IndirectY z) = Unit {0}
Small (IndirectBankY z) = Unit {0}

pub record Bytes (c : Cpu) : Type 0 where
  pub a : c.a < 256
  pub x : c.x < 256
  pub y : c.y < 256
  pub s : c.s < 256

indexed_calm : (b : Bank) (a i : ℕ) → Calm (λ v. v < 256) (load_indexed b a i)
unfolding load_indexed
indexed_calm b a i = λ v n. if_case (Calm (λ v. v < 256)) (crosses a i) _ _ (λ h w o. o) (λ h. n)

-- a load gives a byte
pub load_calm : (c : Cpu) (d : Mode) → Small d → Calm (λ v. v < 256) (load c d)
unfolding load zero_indexed pointer ◌>>=◌
load_calm c (Immediate v) h = h
load_calm c (Zero z) h = λ v n. n
load_calm c (ZeroX z) h = λ u o v n. n
load_calm c (ZeroY z) h = λ u o v n. n
load_calm c (Absolute low high) h = λ v n. n
load_calm c (AbsoluteX low high) h = indexed_calm execution (address low high) c.x
load_calm c (AbsoluteY low high) h = indexed_calm execution (address low high) c.y
load_calm c (IndirectX z) h = λ u o low n high n' v n''. n''
load_calm c (IndirectY z) h = λ low n high n'. indexed_calm execution _ c.y
load_calm c (IndirectBankY z) h = λ low n high n'. indexed_calm indirect _ c.y

not_within : (l a h : ℕ) → not (leb l a && leb a h) ≡ true → l ≤ a → a ≤ h → ⊥
not_within l a h t p q = false≢true (rw (le-leb l a p, le-leb a h q) at t)

-- from a base outside 0001 to 01FF, no index leads to the stack page
base_off : (a i : ℕ) → a < 65536 → i < 256 → outside 0x0001 a ≡ true → OffPage (sum16 a i)
base_off a i ha hi t e = go (dec_le 1 a) (dec_le a 511) (dec_le 65536 (a + i))
  where
    go : Dec (1 ≤ a) → Dec (a ≤ 511) → Dec (65536 ≤ a + i) → ⊥
    go (yes p) (yes q) d = not_within 1 a 511 t p q
    go (no p) q d = omega arith
    go (yes p) (no q) (yes d) = omega arith
    go (yes p) (no q) (no d) = omega arith

-- by the rules of a store its data is off the stack page, and the successor is as it is asked to be
pub record Stored (map : List ℕ) (c : Cpu) (d : Mode) (s : Successor) : Type 0 where
  pub calm : Calm OffPage (place c d)
  pub follows : reached map s ≡ true

module _ (map : List ℕ) (i : ℕ) where
  -- the rules of a record that are asked where one of its own holds
  pub unbroken : (b : Bool) (e : Refusal) (r : Rules) → Hold (tests_of map i (when b then r else Err e)) →
      (b ≡ true) × Hold (tests_of map i r)
  unbroken true e r t = (refl, t)
  unbroken false e r t = absurd (false≢true t.0)

  first_unbroken : (b : Bool) (e : Refusal) (r : Rules) → Hold (tests_of map i (result_and (when b then Ok (tt {0}) else Err e) r)) →
      (b ≡ true) × Hold (tests_of map i r)
  first_unbroken true e r t = (refl, t)
  first_unbroken false e r t = absurd (false≢true t.0)

  pub place_calm : (c : Cpu) (d : Mode) (s : Successor) → Bytes c → Small d → Hold (tests_of map i (result_and (store_rules i d) (one s))) →
      Stored map c d s
  unfolding place zero_indexed pointer indexed ◌>>=◌
  place_calm c (Immediate v) s b h t = record { calm = λ e. omega arith; follows = t.0 }
  place_calm c (Zero z) s b h t = record { calm = λ e. omega arith; follows = t.0 }
  place_calm c (ZeroX z) s b h t = record { calm = λ u o e. omega arith; follows = t.0 }
  place_calm c (ZeroY z) s b h t = record { calm = λ u o e. omega arith; follows = t.0 }
  place_calm c (Absolute low high) s b h t =
      let u = first_unbroken (outside 0x0100 (address low high)) (StoreAddress i) (one s) t in
      record { calm = λ e. not_within 256 (address low high) 511 u.0 (omega arith) (omega arith); follows = u.1.0 }
  place_calm c (AbsoluteX low high) s b h t =
      let u = first_unbroken (outside 0x0001 (address low high)) (StoreAddress i) (one s) t in
      record { calm = λ v o. base_off (address low high) c.x h b.x u.0; follows = u.1.0 }
  place_calm c (AbsoluteY low high) s b h t =
      let u = first_unbroken (outside 0x0001 (address low high)) (StoreAddress i) (one s) t in
      record { calm = λ v o. base_off (address low high) c.y h b.y u.0; follows = u.1.0 }
  place_calm c (IndirectX z) s b h t = absurd (false≢true t.0)
  place_calm c (IndirectY z) s b h t = absurd (false≢true t.0)
  place_calm c (IndirectBankY z) s b h t = absurd (false≢true t.0)
