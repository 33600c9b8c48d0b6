use Rattle.step.proofs.Closing.{add_count}
use Rattle.rules.specs.Interrupts.{cycles_of}
use Rattle.std.proofs.Common.{refl, arith}
use Rattle.step.proofs.execute.Goals as goal

pub returns-then-count-eq0 : goal.returns-then-count-eq0
unfolding cycles_of
returns-then-count-eq0 c = (
  omega arith,
  λ s b.
      let x = c.instruction-count.ensures.1 s b in
      record {
        does = λ d. absurd (omega (arith, c.if-count-eq0.true, (x.does d).0));
        refuses = λ d. let q = x.refuses d in (refl, q.1, q.2, q.3);
      },
)

pub returns : goal.returns
unfolding cycles_of
returns c = (
  c.instruction-count.ensures.0,
  λ s b.
      let x = c.instruction-count.ensures.1 s b in
      record {
        does = λ d. let y = x.does d in (y.0, add_count y.1 c.add_cycles.ensures);
        refuses = λ d. absurd (c.if-count-eq0.false (x.refuses d).0);
      },
)
