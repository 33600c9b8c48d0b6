use Rattle.stacking.proofs.word_above.Goals as goal

pub returns : goal.returns
returns c =
    λ t h. rw (c.stack-two.ensures, c.up-2.ensures, c.stack-one.ensures, c.up.ensures)
    at (c.word_at.ensures t h)
