use Rattle.std.proofs.Common.{◌≡◌, ℕ, ◌+◌, Bool, false, leb, Option, Some, None, rules, ◌∙◌}
use Rattle.std.specs.Option.{MatchOption, option_map_or}
use Rattle.admission.proofs.is_reached.Goals as goal

some_and : (f : ℕ → Bool) (r : Option ℕ) (b : Bool) (P : ℕ → Type 0) → ((x : ℕ) → P x → b ≡ f x) → MatchOption r (b ≡ false) P →
    b ≡ option_map_or f r false
some_and f None b P h m = m
some_and f (Some x) b P h m = h x m

pub returns : goal.returns
returns c =
    let s = c.args.s in
    let fits = λ (need : ℕ). leb (need + s.more) s.limit in
    some_and fits c.need_at.result c.is_some_and.result _ (λ x k. search rules) c.is_some_and.ensures ∙ c.need_at.ensures.tells fits
