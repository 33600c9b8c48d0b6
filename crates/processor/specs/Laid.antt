-- What a store, a shift, INC or DEC does at the place p that its mode led to.
use Rattle.std.specs.Prelude.{◌≡◌, ℕ}
use Rattle.rules.specs.declared.Changing.{Changing}
use Rattle.rules.specs.declared.Storing.{Storing}
use Rattle.rules.specs.declared.Mode.{Mode}
use Rattle.rules.specs.declared.Instruction.{Instruction}
use Rattle.rules.specs.declared.Instruction.TheVariants.{Store, Change}
use Rattle.rules.specs.declared.Cpu.{Cpu}
use Rattle.rules.specs.declared.Purpose.TheVariants.{Wasted, Data}
use Rattle.rules.specs.Cycles.{Cycles, done, write, ◌>>=◌, ◌>>◌}
use Rattle.rules.specs.Arithmetic.{changed}
use Rattle.rules.specs.Addressing.{get, put, bank_of}
use Rattle.rules.specs.Operations.{with_p, register_of}

abbrev pub stored_at : Storing → Mode → ℕ → Cpu → Cycles Cpu
stored_at o m p c = write Data (bank_of m) p (register_of o c) (done c)

-- "write it back, write the result", once v was read
abbrev pub rewritten : Changing → ℕ → ℕ → Cpu → Cycles Cpu
rewritten o p v c = do
  put Wasted p v
  put Data p (changed o v c.p).value
  done (with_p (changed o v c.p).flags c)

abbrev pub changed_at : Changing → ℕ → Cpu → Cycles Cpu
changed_at o p c = get Data p >>= λ v. rewritten o p v c

-- an instruction that does so, with its mode
pub data Lays (i : Instruction) (m : Mode) : Type 0 where
  stores : (o : Storing) → i ≡ Store o m → Lays i m
  changes : (o : Changing) → i ≡ Change o m → Lays i m
