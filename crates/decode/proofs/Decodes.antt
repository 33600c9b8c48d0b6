-- The fields say what the opcodes say: one computed test on the table of 256.
use Prim.Native.Nat.{ℕ, ◌<◌}
use mathlib.Core.Path.{◌≡◌, refl, sym, ap, ◌∙◌}
use mathlib.Core.List.{List, map}
use lib.ListN.{get_or}
use Rattle.rules.specs.Opcodes.{Entry, decode, instruction_of}
use Rattle.rules.specs.Table.{table}
use Rattle.rules.proofs.Table.{from, made_at, at_opcode}
use Rattle.rules.specs.declared.Instruction.{Instruction}
use Rattle.rules.specs.declared.Instruction.TheVariants.{Undefined}
use Rattle.decode.specs.Fields.{group_one, with_mode, control, even_group, by_fields}

module _ (low high : ℕ) where
  -- the one computed test of the decoder, of all 256 numbers, whatever the operand
  agree : map (λ (n : ℕ). by_fields n low high) (from 0 256) ≡ map (λ (e : Entry). instruction_of e low high) table
  unfolding table by_fields group_one even_group control with_mode
  agree = refl

  pub fields_say : (n : ℕ) → n < 256 → by_fields n low high ≡ instruction_of (decode n) low high
  fields_say n h =
      sym (made_at (λ (m : ℕ). by_fields m low high) Undefined n h) ∙ ap (λ (l : List Instruction). get_or l n Undefined) agree ∙
      at_opcode (λ (e : Entry). instruction_of e low high) Undefined n h
