use Rattle.std.proofs.Common.{arith, eq-eqb, ne_eqb}
use Rattle.laws.proofs.Goes.{does, ended, then_read}
use Rattle.rules.specs.Cycles.{execution, ◌>>=◌}
use Rattle.rules.specs.Operations.{perform, branch_to}
use Rattle.state.proofs.Registers.{holds, makes_pc}
use Rattle.processor.proofs.branch.Goals as goal

pub returns-then-to-next : goal.returns-then-to-next
unfolding perform branch_to ◌>>=◌
returns-then-to-next c = (
  omega arith,
  λ s h p.
      let yes = rw (c.taken.ensures, (holds s h.bytes).p) at c.if-taken.true in
      let to = rw p at c.target-to.ensures in
      let near = rw (to, p) at c.if-to-next.true in
      let first = rw p at (c.read.ensures s execution h) in
      rw (yes, eq-eqb _ _ near) (does s (makes_pc to c.set_pc.ensures s h.bytes) (then_read _ first ended)),
)

pub returns-then-taken : goal.returns-then-taken
unfolding perform branch_to ◌>>=◌
returns-then-taken c = (
  omega arith,
  λ s h p.
      let yes = rw (c.taken.ensures, (holds s h.bytes).p) at c.if-taken.true in
      let to = rw p at c.target-to.ensures in
      let far = rw (to, p) at c.if-to-next.false in
      let first = rw p at (c.read.ensures s execution h) in
      let second = rw (to, p) at (c.read-then-taken.ensures s execution h) in
      rw (yes, ne_eqb _ _ far)
      (does s (makes_pc to c.set_pc-then-taken.ensures s h.bytes) (then_read _ first (then_read _ second ended))),
)

pub returns : goal.returns
unfolding perform branch_to ◌>>=◌
returns c = (
  omega arith,
  λ s h p.
      let no = rw (c.taken.ensures, (holds s h.bytes).p) at c.if-taken.false in
      rw no (does s (makes_pc (rw p) c.set_pc-2.ensures s h.bytes) ended),
)
