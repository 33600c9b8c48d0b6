-- What two searches of a map say of the vectors.
use Rattle.std.proofs.Common.{◌≡◌, ℕ, ◌+◌, Bool, false, ◌&&◌, leb, List, Option, Some, None, ◌∙◌}
use Rattle.std.specs.Option.{option_map_or}
use Rattle.rules.specs.Bus.{images}
use Rattle.admission_rules.specs.Admission.{main, handler, marked, is_mark, vector_at, vectors_hold}
use Rattle.admission.specs.Maps.{NeedAt}

-- "FFFC points to main, FFFE to handler, both height 0; their needs + 3 make at most 256"
module _ (m map : List ℕ) (p : ℕ) (n : Option ℕ) (at : p ≡ vector_at images m 0xFFFC) (found : NeedAt map p main 0 n) where
  abbrev rest : ℕ → Bool
  rest x = marked map λ s. is_mark (vector_at images m 0xFFFE) handler 0 s && leb (x + s.need + 3) 256

  abbrev hold : Option ℕ → Bool
  hold h = option_map_or rest h false

  holds : hold n ≡ vectors_hold images m map
  unfolding vectors_hold
  holds = (found.tells rest) ∙ (rw at)

  pub no_main : n ≡ None → false ≡ vectors_hold images m map
  no_main e = rw e at holds

  module _ (x q : ℕ) (is : n ≡ Some x) (h : Option ℕ) (at' : q ≡ vector_at images m 0xFFFE) (found' : NeedAt map q handler 0 h) where
    both : option_map_or (λ y. leb (x + y + 3) 256) h false ≡ vectors_hold images m map
    both = found'.tells (λ (y : ℕ). leb (x + y + 3) 256) ∙ (rw at') ∙ (rw is at holds)

    pub no_handler : h ≡ None → false ≡ vectors_hold images m map
    no_handler e = rw e at both

    pub rooms : (y : ℕ) → h ≡ Some y → leb (x + y + 3) 256 ≡ vectors_hold images m map
    rooms y e = rw e at both
