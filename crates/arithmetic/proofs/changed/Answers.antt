use Rattle.arithmetic.proofs.Laws.{doubled}
use Rattle.rules.specs.Arithmetic.{changed}
use Rattle.arithmetic.proofs.changed.Goals as goal

pub returns-in-Asl : goal.returns-in-Asl
unfolding changed
returns-in-Asl c =
    rw (c.in-Asl.is, c.shifted.ensures, c.has.ensures, doubled _ c.ranges.v.fits)

pub returns-in-Rol : goal.returns-in-Rol
unfolding changed
returns-in-Rol c =
    rw (
      c.in-Rol.is,
      c.shifted-in-Rol.ensures,
      c.has-in-Rol.ensures,
      c.bit.ensures.0,
      doubled _ c.ranges.v.fits,
    )

pub returns-in-Lsr : goal.returns-in-Lsr
unfolding changed
returns-in-Lsr c = rw (c.in-Lsr.is, c.shifted-in-Lsr.ensures, c.has-in-Lsr.ensures)

pub returns-in-Ror : goal.returns-in-Ror
unfolding changed
returns-in-Ror c =
    rw (c.in-Ror.is, c.shifted-in-Ror.ensures, c.has-in-Ror.ensures, c.bit-in-Ror.ensures.0)

pub returns-in-Dec : goal.returns-in-Dec
unfolding changed
returns-in-Dec c = rw (c.in-Dec.is, c.by_one.ensures)

pub returns-in-Inc : goal.returns-in-Inc
unfolding changed
returns-in-Inc c = rw (c.in-Inc.is, c.by_one-in-Inc.ensures)
