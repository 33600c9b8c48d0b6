use Prim.Native.Nat.{◌%◌}
use Prim.Native.Char.{code}
use native.Mathlib.Omega.{arith}
use Rattle.characters.proofs.Laws.{number_most, puts_shown}
use Rattle.text.proofs.Shown.{refused_shown}
use Rattle.text.proofs.put_answer.Goals as goal

pub returns : goal.returns
returns c =
    let most = number_most (code "E") (c.args.word % 256) in
    refused_shown _ _ _ _ _ _ c.if-number-eq0.false (puts_shown c.put_number.ensures (omega (arith, most)))
