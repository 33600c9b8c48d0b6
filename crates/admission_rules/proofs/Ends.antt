-- A tree on a 6502: every address reaches its own byte of the image. So what a step of a 6502 does is read off the image alone.
use Prim.Native.Nat.{ℕ, ◌/◌, ◌%◌}
use native.Mathlib.Omega.{arith}
use mathlib.Core.Path.{◌≡◌, refl, ap}
use mathlib.Core.Bool.{Bool, true, false, ◌&&◌}
use mathlib.Core.List.{List, [], ◌∷◌, ◌++◌}
use lib.Dec.{eqb}
use lib.ListN.{length, set}
use Rattle.rules.specs.declared.Bus.{Bus}
use Rattle.rules.specs.Basics.{when◌then◌else◌, at, address}
use Rattle.rules.specs.Cycles.{Bank, Cycles, done, read, write, Access, Ran, run}
use Rattle.rules.specs.Bus.{is_protected, of_image, cell_of, image_at, images, World, world, look, stored, board, list_of}
use Rattle.admission_rules.specs.Safety.{stack_writes}

-- the addresses in the stack page that a list's accesses write
abbrev on_page : List Access → List ℕ
on_page [] = []
on_page (a ∷ l) = when eqb a.kind 1 && eqb (a.address / 256) 1 then a.address ∷ on_page l else on_page l

-- read off the list's bytes, they are the same
pub listed_writes : (l : List Access) (rest : List ℕ) → stack_writes (length l) (list_of l ++ rest) ≡ on_page l
unfolding list_of
listed_writes [] rest = refl
listed_writes (a ∷ l) rest =
    let e : address (a.address % 256) (a.address / 256) ≡ a.address = omega arith in
    rw (e, listed_writes l rest)

-- what a write leaves of the image, c pages protected
abbrev pub written : ℕ → List ℕ → ℕ → ℕ → List ℕ
written c m p v = when is_protected c p then m else set m p v

-- what a tree ends with: its value, the image, and the addresses that it wrote in the stack page
pub record End (A : Type 0) : Type 0 where
  pub value : A
  pub image : List ℕ
  pub writes : List ℕ

unfoldable pub ends : {A : Type 0} → ℕ → Cycles A → List ℕ → End A
ends c (done a) m = record { value = a; image = m; writes = [] }
ends c (read why b p f) m = ends c (f (at m p)) m
ends c (write why b p v t) m =
    let e = ends c t (written c m p v) in
    record { value = e.value; image = e.image; writes = when eqb (p / 256) 1 then p ∷ e.writes else e.writes }

module _ (b : Bus) (is : b.part ≡ 2) where
  cell_6502 : (k : Bank) (p : ℕ) → cell_of b k p ≡ of_image p
  unfolding cell_of image_at
  cell_6502 k p = rw is

  pub look_6502 : (m : List ℕ) (k : Bank) (p : ℕ) → look images (world b m) k p ≡ at m p
  unfolding look
  look_6502 m k p = rw (cell_6502 k p)

  stored_6502 : (m : List ℕ) (k : Bank) (p v : ℕ) → stored images (world b m) k p v ≡ world b (written b.protected m p v)
  unfolding stored
  stored_6502 m k p v = rw (cell_6502 k p) (go (is_protected b.protected p))
    where
      go : (h : Bool) → (when h then world b m else world b (set m p v)) ≡ world b (when h then m else set m p v)
      go true = refl
      go false = refl

  pub record Ended {A : Type 0} (r : Ran (World (List ℕ)) A) (e : End A) : Type 0 where
    pub value : r.value ≡ e.value
    pub after : r.after ≡ world b e.image
    pub writes : on_page r.list ≡ e.writes

  pub run_ends : {A : Type 0} (t : Cycles A) (m : List ℕ) → Ended (run (board images) t (world b m)) (ends b.protected t m)
  unfolding run ends
  run_ends (done a) m = record { value = refl; after = refl; writes = refl }
  run_ends (read why k p f) m =
      rw (look_6502 m k p) (let e = run_ends (f (at m p)) m in record { value = e.value; after = e.after; writes = e.writes })
  run_ends (write why k p v t) m =
      rw (stored_6502 m k p v)
      (let e = run_ends t (written b.protected m p v) in
      record { value = e.value; after = e.after; writes = ap (λ (l : List ℕ). when eqb (p / 256) 1 then p ∷ l else l) e.writes })
