use Rattle.std.proofs.Common.{◌<◌, sym, ◌∙◌, arith}
use Rattle.laws.proofs.Goes.{call_does}
use Rattle.rules.specs.Cycles.{◌>>=◌}
use Rattle.rules.specs.Opcodes.{decode, instruction_of}
use Rattle.processor.specs.Rest.{rest}
use Rattle.processor.proofs.Fetches.{short_is, high_is, fetched_first, alike}
use Rattle.processor.proofs.Executes.{defined_is, refused, executed, some}
use Rattle.state.proofs.Registers.{holds}
use Rattle.processor.proofs.instruction.Goals as goal

pub returns-in-Undefined : goal.returns-in-Undefined
returns-in-Undefined c = (
  omega arith,
  λ s b.
      let t = c.wire-w.ensures.stands s b.bytes b.sound b.banked b.pins b.banks in
      let f = c.fetch-f.result in
      let found = c.fetch-f.ensures s t (c.pc_of-pc.ensures ∙ (holds s b.bytes).pc) in
      let is = sym c.in-Undefined.is ∙ c.decode-i.ensures in
      refused f.opcode f.low f.high found.opcode (omega (arith, c.fetch-f.type_inv)) is b.bytes,
)

pub perform-requires : goal.perform-requires
perform-requires c =
    let f = c.fetch-f.result in
    let is = c.decode-i.ensures in
    let sure = defined_is f.opcode f.low f.high _ is c.in_default.not-Undefined in (
      rw is (short_is f.opcode _ _ (omega (arith, c.fetch-f.type_inv)) ∙ sure),
      record { image = omega (arith, c.wire-w.ensures.size); room = rw c.begin.auto.list c.requires.0 },
    )

pub returns : goal.returns
unfolding ◌>>=◌
returns c = (
  c.perform.ensures.0,
  λ s b.
      let t = c.wire-w.ensures.stands s b.bytes b.sound b.banked b.pins b.banks in
      let pc = c.pc_of-pc.ensures ∙ (holds s b.bytes).pc in
      let f = c.fetch-f.result in
      let found = c.fetch-f.ensures s t pc in
      let fits : f.opcode < 256 = omega (arith, c.fetch-f.type_inv) in
      let is = c.decode-i.ensures in
      let sure = defined_is f.opcode f.low f.high _ is c.in_default.not-Undefined in
      let done =
      c.perform.ensures.1 s
      (record { stands = t; here = pc; told = rw (is, ← found.high) (high_is f.opcode _ _ fits) }) in
      executed f.opcode f.low f.high found.opcode sure (some done)
      (alike (fetched_first s.bus _ s.cpu f.opcode f.low f.high fits sure found.opcode found.low found.high)
      (call_does (λ v. rest (instruction_of (decode f.opcode) f.low f.high) s.cpu)
      (rw is at (c.begin.ensures s _ t.wired pc found)) (rw is at done))),
)
