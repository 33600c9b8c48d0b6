-- Each function of pages has one answer, and feeding a list leaves one count of each page.
use mathlib.Core.Path.{refl, sym, ap, ◌∙◌}
use mathlib.Core.List.{List}
use Prim.Native.Nat.{ℕ}
use Rattle.std.specs.Prelude.{Result}
use Rattle.rules.specs.declared.Refusal.{Refusal}
use Rattle.rules.specs.declared.Counting.{Counting}
use Rattle.pages.proofs as its
use Rattle.unique.proofs.General.{Unique, answer}

-- the answer and the counts, each in the place of its parameter
abbrev placed : Counting → Result (Unit {0}) Refusal × (List ℕ × (List ℕ × (Unit {0} × Unit {0})))
placed k = (k.answer, (k.reads, (k.writes, (tt, tt))))

pub feed : Unique its.feed.Kinds.ps its.feed.Kinds.r its.feed.Reads.Post
feed κs a x y p q = ap placed (p ∙ sym q)

pub none : Unique its.none.Kinds.ps its.none.Kinds.r its.none.Reads.Post
none κs a x y = answer refl

pub next : Unique its.next.Kinds.ps its.next.Kinds.r its.next.Reads.Post
next κs a x y p q = answer refl p.0 q.0
