use Rattle.characters.proofs.Laws.{number_most, puts_shown}
use Prim.Native.Char.{code}
use native.Mathlib.Omega.{arith}
use Rattle.characters.proofs.put_refusal.Goals as goal

pub returns : goal.returns
returns c =
    let most = number_most (code "E") c.numbers_of.result.number in
    rw (← c.numbers_of.ensures) (puts_shown c.put_number.ensures (omega (arith, most, c.requires)))
