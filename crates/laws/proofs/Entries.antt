-- What an entry takes of the bytes after the opcode.
use Prim.Native.Nat.{ℕ}
use Rattle.rules.specs.Opcodes.{Entry, undefined, alone, byte, word, late}

-- how many bytes are fetched before the instruction's own accesses: the opcode, and the operand; "JSR: low .. then high operand"
abbrev pub fetched_by : Entry → ℕ
fetched_by undefined = 1
fetched_by (alone i) = 1
fetched_by (byte f) = 2
fetched_by (word f) = 3
fetched_by (late f) = 2
