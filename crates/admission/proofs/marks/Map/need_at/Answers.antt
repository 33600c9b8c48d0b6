use Rattle.std.proofs.Common.{◌≡◌, ℕ, Bool, true, false, ◌&&◌, [], refl, ap, sym, ◌∙◌, arith}
use Rattle.std.specs.Option.{option_map_or}
use Rattle.std.specs.Bool.{then_some}
use Rattle.admission_rules.specs.Admission.{marks_in, mark_at}
use Rattle.admission.specs.Maps.{mark_of}
use Rattle.admission.proofs.Chunks.{marks_in-bytes_of, mark_at-bytes_of}
use Rattle.admission.proofs.marks.Maps.{unmarked, here}
use Rattle.admission.proofs.marks.Map.need_at.Goals as goal

map_or-then_some : (f : ℕ → Bool) (b : Bool) (x : ℕ) → option_map_or f (then_some b x) false ≡ (b && f x)
map_or-then_some f true x = refl
map_or-then_some f false x = refl

pub returns-in_err-get : goal.returns-in_err-get
returns-in_err-get c =
    let rs = c.self.inside.records.now in
    let count : marks_in c.args.self.now ≡ _ = sym (ap marks_in c.self.view_is) ∙ marks_in-bytes_of rs in
    let past = (rw c.in_err-get.was at c.get.ensures.lookup).3 in
    let asc = rw c.self.view_is at c.self.invariant.ascending in
    let found = c.find.ensures in
    record { tells = λ f. rw c.from_residual.ensures (sym (unmarked _ asc _ _ _ _ found f (omega (arith, found.within, past, count)))) }

pub returns : goal.returns
returns c =
    let rs = c.self.inside.records.now in
    let i = c.find.result in
    let count = sym (ap marks_in c.self.view_is) ∙ marks_in-bytes_of rs in
    let there = (rw c.in_ok-get.was at c.get.ensures.lookup).3 in
    let asc = rw c.self.view_is at c.self.invariant.ascending in
    let mark =
    c.mark_of-m.ensures ∙ ap mark_of (there.1 []) ∙ sym (mark_at-bytes_of rs i there.0) ∙ ap (λ m. mark_at m i) c.self.view_is
    in
    record {
      tells = λ f.
          (rw (c.then_some.ensures, c.is_mark.ensures, mark) (map_or-then_some f _ _))
          ∙ sym (here _ asc _ _ _ _ c.find.ensures f (omega (arith, there.0, count)));
    }
