-- How many bytes an instruction is long, once it is decoded.
use Rattle.std.specs.Prelude.{ℕ}
use Rattle.rules.specs.declared.Mode.{Mode}
use Rattle.rules.specs.declared.Mode.TheVariants.{Immediate, Zero, ZeroX, ZeroY, Absolute, AbsoluteX, AbsoluteY, IndirectX, IndirectY}
use Rattle.rules.specs.declared.Mode.TheVariants.{IndirectBankY}
use Rattle.rules.specs.declared.Instruction.{Instruction}
use Rattle.rules.specs.declared.Instruction.TheVariants.{Read, Store, Change, Accumulator, Implied, AtStack, Branch, Jump, JumpIndirect}
use Rattle.rules.specs.declared.Instruction.TheVariants.{Jsr, Brk, Txs, Cli, Undefined}

abbrev pub mode_size : Mode → ℕ
mode_size (Immediate v) = 2
mode_size (Zero z) = 2
mode_size (ZeroX z) = 2
mode_size (ZeroY z) = 2
mode_size (Absolute low high) = 3
mode_size (AbsoluteX low high) = 3
mode_size (AbsoluteY low high) = 3
mode_size (IndirectX z) = 2
mode_size (IndirectY z) = 2
mode_size (IndirectBankY z) = 2

-- A JSR is 3 long; 2 of them are fetched before its own accesses, "then high operand".
abbrev pub size_in : ℕ → Instruction → ℕ
size_in jsr (Read o m) = mode_size m
size_in jsr (Store o m) = mode_size m
size_in jsr (Change o m) = mode_size m
size_in jsr (Accumulator o) = 1
size_in jsr (Implied o) = 1
size_in jsr (AtStack o) = 1
size_in jsr (Branch t o) = 2
size_in jsr (Jump low high) = 3
size_in jsr (JumpIndirect low high) = 3
size_in jsr (Jsr low) = jsr
size_in jsr Brk = 1
size_in jsr Txs = 1
size_in jsr Cli = 1
size_in jsr Undefined = 1
