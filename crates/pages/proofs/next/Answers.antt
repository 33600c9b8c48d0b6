use mathlib.Core.Path.{◌∙◌}
use Rattle.pages.proofs.Blocks.{block_counted, block_refused, both}
use Rattle.pages.proofs.next.Goals as goal

pub returns-in-Ok-feed : goal.returns-in-Ok-feed
returns-in-Ok-feed c =
    let what = rw c.in-Ok-feed.is at c.feed.ensures in
    let p = both c.args.counts _ c.args.block.now (rw c.in-Ok.is (block_counted _ _ _ _ _ what)) in
    record { exact = p.0; joined = p.1 }

pub returns-in-Err-feed : goal.returns-in-Err-feed
returns-in-Err-feed c =
    let why = rw c.in-Err-feed.is at c.feed.ensures in
    let p = both c.args.counts _ c.args.block.now (rw c.in-Ok.is (c.refused.ensures ∙ block_refused _ _ _ _ _ _ why)) in
    record { exact = p.0; joined = p.1 }

pub returns-in-Err : goal.returns-in-Err
returns-in-Err c =
    let p = both c.args.counts _ c.args.block.now (rw c.in-Err.is c.refused_for.ensures) in
    record { exact = p.0; joined = p.1 }
