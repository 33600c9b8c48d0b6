use Rattle.std.proofs.Common.{◌<◌, length, sym, ap, ◌∙◌, arith}
use Rattle.rules.specs.Basics.{at}
use Rattle.assembly_rules.specs.Characters.{place}
use Rattle.operands.proofs.Laws.{ahead_at, ahead_size, run_more, grown}
use Rattle.operands.proofs.run.Goals as goal

pub loop-c-preserved : goal.loop-c-preserved
loop-c-preserved c =
    let l = c.loop-c in
    let s = c.args.s.now in
    let h : l.word.at < length s = omega (arith, ahead_size s c.args.at) in
    let d = c.place-digit.ensures ∙ ap place (ahead_at s c.args.at l.c-index ∙ ap (at s) (sym l.invariant.here)) in
    record {
      here = omega arith;
      within = omega arith;
      few = omega arith;
      small =
          grown l.word.value c.args.base l.word.left c.requires.1 (omega arith) l.invariant.few
          l.invariant.small c.place-digit.result c.if-base-digit.false;
      same =
          l.invariant.same ∙ run_more _ l.word.left l.word.value s l.word.at (omega arith) h (rw d at c.if-base-digit.false) ∙ (rw (← d));
    }
