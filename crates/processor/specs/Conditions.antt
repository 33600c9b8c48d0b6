-- The flag that a branch looks at, as its weight in P, and whether it is taken where that flag is set.
use Rattle.std.specs.Prelude.{ℕ, Bool, true, false}
use Rattle.rules.specs.declared.Condition.{Condition}
use Rattle.rules.specs.declared.Condition.TheVariants.{Bpl, Bmi, Bvc, Bvs, Bcc, Bcs, Bne, Beq}

abbrev pub weight_of : Condition → ℕ
weight_of Bpl = 128
weight_of Bmi = 128
weight_of Bvc = 64
weight_of Bvs = 64
weight_of Bcc = 1
weight_of Bcs = 1
weight_of Bne = 2
weight_of Beq = 2

abbrev pub sense_of : Condition → Bool
sense_of Bpl = false
sense_of Bmi = true
sense_of Bvc = false
sense_of Bvs = true
sense_of Bcc = false
sense_of Bcs = true
sense_of Bne = false
sense_of Beq = true
