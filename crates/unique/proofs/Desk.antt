-- No second word, count or buffer fits the contract of a function that is called at a desk.
use Prim.Native.Nat.{ℕ}
use mathlib.Core.Path.{refl, sym, ap, ◌∙◌}
use mathlib.Core.List.{List}
use Rattle.rules.specs.Pages.{PageWords}
use Rattle.assembly_rules.specs.Assembly.{Words}
use Rattle.desk.proofs as its
use Rattle.unique.proofs.General.{Unique, answer}

pub wankitare_admit : Unique its.wankitare_admit.Kinds.ps its.wankitare_admit.Kinds.r its.wankitare_admit.Reads.Post
wankitare_admit κs a x y p q = answer refl p.0 q.0

-- the word and the counts, each in the place of its parameter
abbrev counted : PageWords → ℕ × (List ℕ × (List ℕ × (Unit {0} × Unit {0})))
counted o = (o.word, (o.reads, (o.writes, (tt, tt))))

pub wankitare_pages : Unique its.wankitare_pages.Kinds.ps its.wankitare_pages.Kinds.r its.wankitare_pages.Reads.Post
wankitare_pages κs a x y p q = ap counted (p ∙ sym q)

-- the word and the buffer, each in the place of its parameter
abbrev written : Words → ℕ × (Unit {0} × (Unit {0} × (List ℕ × Unit {0})))
written o = (o.word, (tt, (tt, (o.left, tt))))

pub wankitare_assemble : Unique its.wankitare_assemble.Kinds.ps its.wankitare_assemble.Kinds.r its.wankitare_assemble.Reads.Post
wankitare_assemble κs a x y p q = ap written (p ∙ sym q)

pub wankitare_list : Unique its.wankitare_list.Kinds.ps its.wankitare_list.Kinds.r its.wankitare_list.Reads.Post
wankitare_list κs a x y p q = ap written (p ∙ sym q)
