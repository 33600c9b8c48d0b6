-- An instruction is as long as its opcode says: one computed claim on the table of 256.
use Rattle.std.proofs.Common.{◌≡◌, ℕ, ◌<◌, map, refl}
use Rattle.rules.specs.Opcodes.{Entry, decode, size_of, instruction_of}
use Rattle.rules.specs.Table.{table}
use Rattle.rules.proofs.Table.{everywhere}
use Rattle.laws.specs.Sizes.{size_in}

module _ (low high : ℕ) where
  abbrev made : Entry → ℕ
  made e = size_in 3 (instruction_of e low high)

  sizes : map made table ≡ map size_of table
  unfolding table
  sizes = refl

  pub size_is : (n : ℕ) → n < 256 → made (decode n) ≡ size_of (decode n)
  size_is n h = everywhere made size_of sizes n h
