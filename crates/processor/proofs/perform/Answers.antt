use Rattle.std.proofs.Common.{⊎_elim, arith, rules}
use Rattle.rules.specs.Operations.{perform}
use Rattle.processor.specs.Laid.{Lays, stores, changes}
use Rattle.processor.specs.Rest.{rest}
use Rattle.processor.proofs.Lays.{lays_fetched}
use Rattle.processor.proofs.perform.Goals as goal

pub lay-requires : goal.lay-requires
lay-requires c =
    let w = c.in-Store in
    let lays : Lays w.i w.m = rw w.i-is (⊎_elim {C = Lays c.args.i w.m} (λ l. stores l.0 l.1) (λ l. changes l.0 l.1) w.is) in
    ((lays, rw w.i-is c.requires.0), search rules)

pub returns-in-Read : goal.returns-in-Read
unfolding perform rest
returns-in-Read c =
    let is = c.in-Read.is in
    (c.read_into.ensures.0, λ s h. rw is (c.read_into.ensures.1 s (rw is at h)))

pub returns-in-AtStack : goal.returns-in-AtStack
unfolding perform rest
returns-in-AtStack c =
    (c.at_stack.ensures.0, λ s h. rw c.in-AtStack.is (c.at_stack.ensures.1 s h.stands h.here))

pub returns-in-Branch : goal.returns-in-Branch
unfolding perform rest
returns-in-Branch c =
    (c.branch-t.ensures.0, λ s h. rw c.in-Branch.is (c.branch-t.ensures.1 s h.stands h.here))

pub returns-in-Jump : goal.returns-in-Jump
unfolding perform rest
returns-in-Jump c =
    let is = c.in-Jump.is in
    (omega arith, λ s h. rw is (c.jump.ensures s _ (rw is at h)))

pub returns-in-JumpIndirect : goal.returns-in-JumpIndirect
unfolding perform rest
returns-in-JumpIndirect c =
    let is = c.in-JumpIndirect.is in
    (omega arith, λ s h. rw is (c.jump_indirect.ensures s (rw is at h)))

pub returns-in-Jsr : goal.returns-in-Jsr
unfolding perform rest
returns-in-Jsr c = (
  omega arith,
  λ s h.
      rw c.in-Jsr.is (rw h.here at (c.jsr.ensures s h.stands)),
)

pub returns-in-Brk : goal.returns-in-Brk
unfolding perform rest
returns-in-Brk c = (
  omega arith,
  λ s h.
      rw c.in-Brk.is (rw h.here at (c.brk.ensures s h.stands)),
)

pub returns-in-Store : goal.returns-in-Store
unfolding perform rest
returns-in-Store c =
    let w = c.in-Store in
    let lays : Lays w.i w.m = rw w.i-is (⊎_elim {C = Lays c.args.i w.m} (λ l. stores l.0 l.1) (λ l. changes l.0 l.1) w.is) in
    (c.lay.ensures.0, λ s h. rw w.i-is at (c.lay.ensures.1 s (lays_fetched lays (rw w.i-is h))))
