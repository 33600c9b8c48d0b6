use mathlib.Core.Path.{◌≡◌, sym, ◌∙◌}
use borrow.Author.Tests.{ne_eqb}
use Rattle.rules.specs.Bus.{selected}
use Rattle.rules.specs.Record.{record_of}
use Rattle.wiring.proofs.Plain.{plain_is}
use Rattle.wiring.proofs.wire.Goals as goal

pub returns-then-part-eq9-clause-stands : goal.returns-then-part-eq9-clause-stands
unfolding selected record_of
returns-then-part-eq9-clause-stands c =
    λ s e q k p b.
    let nine : s.bus.part ≡ 9 = rw e at c.if-part-eq9.true in
    record {
      bytes = e;
      wired =
          record {
            sound = q;
            pins = sym p;
            banked = k;
            banks = b;
            bank = rw (e, nine);
            plain = rw nine;
            base = rw (nine, b) (rw e at (c.base_of.ensures.1 k));
          };
    }

pub returns-clause-stands : goal.returns-clause-stands
unfolding selected record_of
returns-clause-stands c =
    λ s e q k p b.
    let other : s.bus.part ≡ 9 → ⊥ = rw e at c.if-part-eq9.false in
    record {
      bytes = e;
      wired =
          record {
            sound = q;
            pins = sym p;
            banked = k;
            banks = b;
            bank = rw (ne_eqb _ 9 other);
            plain = rw e at c.plain_of.ensures ∙ plain_is s.bus.part q.part other;
            base = rw (ne_eqb _ 9 other);
          };
    }
