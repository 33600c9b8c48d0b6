use Rattle.rules.specs.Basics.{at}
use Rattle.rules.specs.Text.{each, hex}
use Rattle.characters.specs.Shown.{Puts}
use Rattle.text.proofs.put_bytes.Given as goal

abbrev pub invariant-loop-byte : goal.invariant-loop-byte
invariant-loop-byte l = Puts (each l.byte-index (λ j. hex (at l.state j))) l.fn.at l.at l.initial.text l.text
