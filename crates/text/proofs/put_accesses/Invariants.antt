use Rattle.rules.specs.Text.{each, line_of}
use Rattle.characters.specs.Shown.{Puts}
use Rattle.text.proofs.put_accesses.Given as goal

abbrev pub invariant-loop-access : goal.invariant-loop-access
invariant-loop-access l = Puts (each l.access-index (line_of l.list)) 0 l.at l.initial.text l.text
