use Rattle.std.proofs.Common.{arith}
use Rattle.processor.proofs.Lays.{is_store, is_change, three_left}
use Rattle.processor.proofs.Fetches.{reached, stands_past}
use Rattle.laws.specs.Sizes.{mode_size}
use Rattle.processor.specs.Rest.{rest}
use Rattle.rules.specs.Operations.{perform}
use Rattle.rules.specs.Cycles.{◌>>=◌}
use Rattle.processor.proofs.lay.Goals as goal

pub returns-in-Store : goal.returns-in-Store
unfolding perform rest
returns-in-Store c = (
  omega (arith, c.place-at.ensures.0.0),
  λ s h.
      let m = c.args.m in
      let g = c.place-at.ensures.1 s h in
      let t = stands_past (mode_size m) h.stands g.bytes in
      rw (is_store c.requires.0.0 c.in-Store.is) (reached (mode_size m) _ g (c.store.ensures _ t)),
)

pub returns-in-Change : goal.returns-in-Change
unfolding perform rest ◌>>=◌
returns-in-Change c =
    let is = is_change c.requires.0.0 c.in-Change.is in (
      omega (arith, c.place-at.ensures.0.1, three_left is c.requires.0.1),
      λ s h.
          let m = c.args.m in
          let g = c.place-at.ensures.1 s h in
          let t = stands_past (mode_size m) h.stands g.bytes in
          rw is (reached (mode_size m) _ g (c.change.ensures _ t)),
    )
