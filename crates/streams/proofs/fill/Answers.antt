use Rattle.std.proofs.Common.{◌≡◌, ℕ, ◌+◌, ◌≤◌, List, ◌++◌, length, take, drop, rules}
use Rattle.std.proofs.Common.{ap, sym, ◌∙◌, subst, le_refl, drop_at, length-take-le}
use Rattle.std.specs.Io.KnownBytes.{Consumes}
use Rattle.std.proofs.KnownBytes.{Consumes-trans}
use Rattle.std.proofs.lemmas.Slice.{take-put_mid_below}
use borrow.Rule.Slice.PartMut.{put_mid, post_of}
use lib.Seq.{take-add, take-append-le}
use Rattle.streams.proofs.fill.Goals as goal

-- what is put behind a front stands there
put_behind : (a k n : ℕ) (xs ys : List ℕ) → a ≤ length xs → n ≤ length ys → take a xs ++ take n ys ≡ take (a + n) (put_mid a k xs ys)
put_behind a k n xs ys within fits =
    let l = put_mid a k xs ys in
    let behind : drop a l ≡ ys ++ post_of a k xs = drop_at (take a xs) _ a (length-take-le a xs within) in
    sym (take-add a n l
    ∙ ap (λ front. front ++ take n (drop a l)) (take-put_mid_below a k xs ys a (le_refl a) within)
    ∙ ap (λ rest. take a xs ++ rest) (ap (take n) behind ∙ take-append-le n ys _ fits))

pub loop-done-preserved : goal.loop-done-preserved
loop-done-preserved g c =
    let before = c.loop-done.invariant in
    let read = c.in_ok-n.ensures in
    record {
      whole = search rules;
      in_bounds = search rules;
      bytes =
          subst (Consumes _ _) (put_behind _ _ _ _ _ before.in_bounds read.bound.0)
          (Consumes-trans _ _ _ _ _ before.bytes read.bytes.0);
    }
