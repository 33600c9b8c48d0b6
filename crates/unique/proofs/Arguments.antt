-- An argument says one start, or none. What the system says of its arguments nobody can promise: once the answer's bytes are given, it is
-- one slice, at the front of the room.
use Prim.Native.Nat.{ℕ}
use mathlib.Core.Path.{◌≡◌, refl}
use mathlib.Core.List.{List}
use mir.Syntax.{Dict}
use denote.Ref.{Bor}
use denote.RattleType.{RattleType}
use denote.Param.Laws.{Laws}
use Rattle.std.specs.Prelude.{Option, Some, None, IsSomeAnd}
use Rattle.std.specs.declared.env.Env as env
use Rattle.arguments.proofs as its
use Rattle.unique.proofs.General.{Unique, UniqueGiven, answer}

pub start_of : Unique its.start_of.Kinds.ps its.start_of.Kinds.r its.start_of.Reads.Post
start_of κs a x y = answer refl

pub only_start : Unique its.only_start.Kinds.ps its.only_start.Kinds.r its.only_start.Reads.Post
only_start κs a x y = answer refl

-- the answer has these bytes, or there is none
abbrev Said : Option (List ℕ) → Option (Bor (List ℕ)) → Type 0
Said (Some bytes) argument = IsSomeAnd argument (λ a. a.now ≡ bytes)
Said None argument = argument ≡ None

-- bytes at a place are one slice
slice_at : (b : Bor (List ℕ)) (place : ℕ × ℕ) (bytes : List ℕ) → b.ref_ptr ≡ place → b.now ≡ bytes →
    Some b ≡ Some (record { ref_ptr = place; now = bytes })
slice_at b place bytes p q i = Some (record { ref_ptr = p i; now = q i })

module _ (T : RattleType) (t : Laws T) (asked : env.Ghosts T.Denot) (asked_dict : Dict) where
  pub only : (said : Option (List ℕ)) →
      UniqueGiven (its.only.Kinds.ps T t) (its.only.Kinds.r T t) (λ κs a x s. Said said x) (its.only.Reads.Post T t asked asked_dict)
  only (Some bytes) κs a (Some b, l) (Some c, m) p q =
      answer refl (slice_at b a.1.0.ref_ptr bytes p.1.1 p.0) (slice_at c a.1.0.ref_ptr bytes q.1.1 q.0)
  only (Some bytes) κs a (None, l) y p q = absurd p.0
  only (Some bytes) κs a (Some b, l) (None, m) p q = absurd q.0
  only None κs a x y p q = answer refl p.0 q.0
