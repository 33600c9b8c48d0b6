-- From the three bytes at PC to the instruction: executed, or refused.
use Rattle.std.proofs.Common.{◌≡◌, ℕ, ◌<◌, ◌≤◌, Bool, true, false, List, sym, refl, ap, ◌∙◌, arith}
use mathlib.Core.Bool.{false≢true}
use Rattle.rules.specs.declared.State.{State}
use Rattle.rules.specs.declared.Instruction.{Instruction}
use Rattle.rules.specs.declared.Instruction.TheVariants.{Undefined}
use Rattle.rules.specs.Bus.{images}
use Rattle.rules.specs.Cycles.{Cycles}
use Rattle.rules.specs.declared.Cpu.{Cpu}
use Rattle.rules.specs.Opcodes.{decode, is_defined, instruction_of}
use Rattle.rules.specs.Operations.{instruction}
use Rattle.rules.specs.Record.{record_of}
use Rattle.rules.specs.Step.{opcode_of}
use Rattle.laws.specs.Goes.{Does}
use Rattle.processor.specs.Begun.{short}
use Rattle.processor.specs.Executed.{Executed}
use Rattle.processor.proofs.Fetches.{short_is, undefined_made}

pub defined_is : (op low high : ℕ) (i : Instruction) → i ≡ instruction_of (decode op) low high → (i ≡ Undefined → ⊥) →
    is_defined (decode op) ≡ true
defined_is op low high i e h = go (is_defined (decode op)) refl
  where
    go : (b : Bool) → is_defined (decode op) ≡ b → is_defined (decode op) ≡ true
    go true d = d
    go false d = absurd (h (e ∙ undefined_made (decode op) low high d))

module _ {s : State} {i l : List ℕ} (op low high : ℕ) (o : op ≡ opcode_of images s i) where
  pub refused : {r : List ℕ} → op < 256 → Undefined ≡ instruction_of (decode op) low high → r ≡ record_of s → Executed s i l 0 r i l
  refused h e b =
      let no : is_defined (decode op) ≡ false = sym (short_is op low high h) ∙ ap short (sym e) in
      record { does = λ d. absurd (false≢true (sym (rw o at no) ∙ d)); refuses = λ d. (refl, b, refl, refl) }

  pub executed : {n : ℕ} {r' i' l' : List ℕ} → is_defined (decode op) ≡ true → 1 ≤ n → Does (instruction s.cpu) 0 s i l n r' i' l' →
      Executed s i l n r' i' l'
  executed sure least d = record { does = λ q. (least, d); refuses = λ q. absurd (false≢true (sym q ∙ rw o at sure)) }

-- what is done from the second access on was some access
pub some : {t : Cycles Cpu} {s : State} {n : ℕ} {i l r' i' l' : List ℕ} → Does t 2 s i l n r' i' l' → 1 ≤ n
some d = omega (arith, d.goes.count)
