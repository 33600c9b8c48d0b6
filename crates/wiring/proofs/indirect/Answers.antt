use mathlib.Core.Path.{◌≡◌}
use borrow.Author.Tests.{ne_eqb}
use Rattle.rules.specs.Bus.{selected}
use Rattle.rules.specs.Record.{record_of}
use Rattle.wiring.proofs.indirect.Goals as goal

pub returns-then-state-eq9-clause-stands : goal.returns-then-state-eq9-clause-stands
unfolding selected record_of
returns-then-state-eq9-clause-stands c =
    λ s h.
    let nine : s.bus.part ≡ 9 = rw h.bytes at c.if-state-eq9.true in
    record {
      bytes = h.bytes;
      wired =
          record {
            sound = h.wired.sound;
            pins = h.wired.pins;
            banked = h.wired.banked;
            banks = h.wired.banks;
            bank = rw (h.bytes, nine);
            plain = h.wired.plain;
            base = rw (nine, h.wired.banks) (rw h.bytes at (c.base_of.ensures.1 h.wired.banked));
          };
    }

pub returns-clause-stands : goal.returns-clause-stands
unfolding selected record_of
returns-clause-stands c =
    λ s h.
    let other : s.bus.part ≡ 9 → ⊥ = rw h.bytes at c.if-state-eq9.false in
    record {
      bytes = h.bytes;
      wired =
          record {
            sound = h.wired.sound;
            pins = h.wired.pins;
            banked = h.wired.banked;
            banks = h.wired.banks;
            bank = rw (ne_eqb _ 9 other) (rw (ne_eqb _ 9 other) at h.wired.bank);
            plain = h.wired.plain;
            base = rw (ne_eqb _ 9 other) (rw (ne_eqb _ 9 other) at h.wired.base);
          };
    }
