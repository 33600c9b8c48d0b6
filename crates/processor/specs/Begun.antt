-- Which instructions keep within a step's room; what is undefined has none.
use Rattle.std.specs.Prelude.{◌+◌, Bool, true, false, nat_le}
use Rattle.rules.specs.declared.Instruction.{Instruction}
use Rattle.rules.specs.declared.Instruction.TheVariants.{Read, Store, Change, Accumulator, Implied, AtStack, Branch, Jump, JumpIndirect}
use Rattle.rules.specs.declared.Instruction.TheVariants.{Jsr, Brk, Txs, Cli, Undefined}
use Rattle.laws.specs.Sizes.{mode_size}
use Rattle.laws.proofs.Lengths.{place_most}

-- "read data, write it back, write the result" take three of the seven
abbrev pub short : Instruction → Bool
short (Read o m) = true
short (Store o m) = true
short (Change o m) = nat_le (mode_size m + place_most m) 4
short (Accumulator o) = true
short (Implied o) = true
short (AtStack o) = true
short (Branch t o) = true
short (Jump low high) = true
short (JumpIndirect low high) = true
short (Jsr low) = true
short Brk = true
short Txs = true
short Cli = true
short Undefined = false
