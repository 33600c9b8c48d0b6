-- What a reader and standard error do nobody can promise. Once it is given, `fill` and `or_tell` have one answer, and leave one buffer.
use Prim.Native.Nat.{ℕ, ◌≤◌}
use mathlib.Core.Path.{◌≡◌, refl, sym, ap, subst, ◌∙◌}
use mathlib.Core.List.{List}
use mir.Syntax.{Dict, w64}
use mir.Val.{Fits}
use denote.RattleType.{RattleType}
use denote.Param.Laws.{Laws}
use Rattle.std.specs.Prelude.{Option, Some, None, Result, Ok, Err, length, take, drop, ◌++◌, IfOk, OnErr, IsOk, IsOkAnd}
use Rattle.std.proofs.Common.{length-take-le}
use Rattle.std.proofs.lemmas.Bool.{false≢true}
use Rattle.std.proofs.lemmas.List.{append_cancel_right, take-append-drop}
use Rattle.std.specs.Io.KnownBytes.{Consumes}
use Rattle.std.specs.declared.io.Eprint as eprint
use Rattle.std.specs.declared.given.Alloc as alloc
use Rattle.std.specs.declared.alloc.Allocator as allocator
use Rattle.std.specs.declared.clone.Clone as clone
use Rattle.std.specs.declared.io.traits.Read as read
use Rattle.streams.proofs as its
use Rattle.unique.proofs.General.{UniqueGiven, answer}

-- telling a failure did not fail
abbrev Told : {T E : Type 0} → Result T E → Type 0
Told r = IsOk r

-- the reader's bytes are known, and no read failed; the reader and the buffer behind what was read were left so
abbrev Filled : {R E : Type 0} → Option (List ℕ) → List ℕ → Result ℕ E → R → R → List ℕ → List ℕ → Type 0
Filled before known r now left buffer behind =
    (before ≡ Some known) × IsOkAnd r (λ count. (now ≡ left) × (drop count buffer ≡ behind))

-- telling has one end, where it has one
told_once : {T E : Type 0} (given : Result T E) (x y : Result (Option T) E) → IsOk x → IsOk y →
    IfOk given (λ value. x ≡ Ok (Some value)) × OnErr given (IfOk x (λ told. told ≡ None)) →
    IfOk given (λ value. y ≡ Ok (Some value)) × OnErr given (IfOk y (λ told. told ≡ None)) → x ≡ y
told_once (Ok value) x y p q r s = r.0 ∙ sym s.0
told_once (Err e) (Ok told) (Ok other) p q r s = ap Ok (r.1 ∙ sym s.1)
told_once (Err e) (Ok told) (Err other) p q r s = absurd (false≢true q)
told_once (Err e) (Err told) y p q r s = absurd (false≢true p)

module _ (T E A : RattleType) (t : Laws T) (e : Laws E) (l : Laws A) (print : eprint.Ghosts E.Denot) (print_dict : Dict)
    (room : alloc.Ghosts E.Denot A.Denot) (room_dict : Dict) (allocates : allocator.Ghosts A.Denot) (allocates_dict : Dict)
    (clones : clone.Ghosts A.Denot) (clones_dict drops drops_room : Dict) where
  pub or_tell : UniqueGiven (its.or_tell.Kinds.ps T E A t e l) (its.or_tell.Kinds.r T E A t e l) (λ κs a x s. Told x)
      (its.or_tell.Reads.Post T E A t e l print print_dict room room_dict allocates allocates_dict clones clones_dict drops drops_room)
  or_tell κs (to, (what, (Ok value, z))) x y p q = answer refl (told_once (Ok value) x.0 y.0 p.0 q.0 p.1 q.1) refl
  or_tell κs (to, (what, (Err e, z))) x y p q = answer refl (told_once (Err e) x.0 y.0 p.0 q.0 p.1 q.1) refl

-- what is left of known bytes tells how many were taken, and so which
front_once : (known : List ℕ) (rest : Option (List ℕ)) (n m : ℕ) (b c behind : List ℕ) → n ≤ length b → m ≤ length c →
    Consumes (Some known) rest (take n b) → Consumes (Some known) rest (take m c) → drop n b ≡ behind → drop m c ≡ behind →
    (n ≡ m) × (b ≡ c)
front_once known (Some rest) n m b c behind i j p q d e =
    let front : take n b ≡ take m c = append_cancel_right (take n b) (take m c) rest (sym p ∙ q) in
    let size : n ≡ m = sym (length-take-le n b i) ∙ (ap length front ∙ length-take-le m c j) in (
      size,
      sym (take-append-drop n b) ∙ ((λ k. front k ++ (d ∙ sym e) k) ∙ take-append-drop m c),
    )
front_once known None n m b c behind i j p q d e = absurd p

module _ (T : RattleType) (N : ℕ) (t : Laws T) (f : Fits w64 N) (reads : read.Ghosts T.Denot) (reads_dict : Dict) where
  consumed : (before known : Option (List ℕ)) (u left : T.Denot) (front : List ℕ) → before ≡ known → u ≡ left →
      Consumes before (reads.remaining u) front → Consumes known (reads.remaining left) front
  consumed before known u left front p q c =
      subst (λ k. Consumes k (reads.remaining left) front) p (subst (λ k. Consumes before (reads.remaining k) front) q c)

  pub fill : (known : List ℕ) (left : T.Denot) (behind : List ℕ) →
      UniqueGiven (its.fill.Kinds.ps T N t f) (its.fill.Kinds.r T N t f)
      (λ κs a x s. Filled (reads.remaining a.0.now) known x s.0.now left s.1.0.now behind)
      (its.fill.Reads.Post T N t f reads reads_dict)
  fill known left behind κs a (Ok n, (u, (b, z))) (Ok m, (v, (c, w))) p q =
      let o =
      front_once known (reads.remaining left) n m b c behind p.1.0 q.1.0
      (consumed _ _ _ _ _ p.0.0 p.0.1.0 p.1.1.0)
      (consumed _ _ _ _ _ q.0.0 q.0.1.0 q.1.1.0)
      p.0.1.1
      q.0.1.1
      in λ j. (Ok (o.0 j), ((p.0.1.0 ∙ sym q.0.1.0) j, (o.1 j, tt)))
  fill known left behind κs a (Err n, x) y p q = absurd p.0.1
  fill known left behind κs a x (Err n, y) p q = absurd q.0.1
