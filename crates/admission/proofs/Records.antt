-- The rules of one record, up to those of its instruction.
use Rattle.std.proofs.Common.{◌≡◌, ℕ, ◌+◌, ◌-◌, ◌/◌, ◌<◌, ◌≤◌, true, List, ◌∙◌, le-leb, Err}
use borrow.Author.Tests.{lt-leb}
use Rattle.rules.specs.declared.Instruction.{Instruction}
use Rattle.rules.specs.declared.Refusal.TheVariants.{Place}
use Rattle.rules.specs.Basics.{at, sum16}
use Rattle.rules.specs.Opcodes.{decode, size_of, instruction_of}
use Rattle.rules.specs.Bus.{is_protected, images}
use Rattle.admission_rules.specs.declared.Mark.{Mark}
use Rattle.admission_rules.specs.Admission.{Rules, mark_at, rules_of, rules_at}
use Rattle.laws.specs.Sizes.{size_in}
use Rattle.admission.proofs.Sizes.{size_is}

module _ (m : List ℕ) (c : ℕ) (map : List ℕ) (i : ℕ) (k : Mark) (here : k ≡ mark_at map i) where
  abbrev its : Rules
  its = rules_at images m c map i

  abbrev p : ℕ
  p = (mark_at map i).address

  abbrev size : ℕ
  size = size_of (decode (at m p))

  pub unprotected : k.address / 256 < 256 - c → Err (Place i) ≡ its
  unfolding rules_at
  unprotected h = rw (lt-leb (256 - c) (p / 256) (rw here at h))

  -- the instruction x that is decoded of the opcode and the two bytes after it, and its size n
  module _
      (kept : 256 - c ≤ k.address / 256) (low high n : ℕ) (x : Instruction) (byte : at m k.address < 256)
      (first : low ≡ at m (sum16 k.address 1)) (second : high ≡ at m (sum16 k.address 2))
      (decoded : x ≡ instruction_of (decode (at m k.address)) low high) (sized : n ≡ size_in 3 x)
    where
      is : x ≡ instruction_of (decode (at m p)) low high
      is = rw here at decoded

      long : n ≡ size
      long = (rw is at sized) ∙ size_is low high (at m p) (rw here at byte)

      place_kept : is_protected c p ≡ true
      place_kept = le-leb (256 - c) (p / 256) (rw here at kept)

      pub too_long : 65536 < k.address + n → Err (Place i) ≡ its
      unfolding rules_at
      too_long h = rw (place_kept, lt-leb (p + size) 65536 (rw (here, long) at h))

      pub its_own : k.address + n ≤ 65536 → (next : ℕ) (r : Rules) → next ≡ sum16 k.address n → r ≡ rules_of k i next high x → r ≡ its
      unfolding rules_at
      its_own h next r on q =
          let first' : low ≡ at m (sum16 p 1) = rw here at first in
          let second' : high ≡ at m (sum16 p 2) = rw here at second in
          let on' : next ≡ sum16 p size = rw (here, long) at on in
          rw (place_kept, le-leb (p + size) 65536 (rw (here, long) at h))
          (q ∙ (λ t. rules_of (here t) i (on' t) (second' t) (is t))
          ∙ (λ t. rules_of (mark_at map i) i (sum16 p size) (at m (sum16 p 2)) (instruction_of (decode (at m p)) (first' t) (second' t))))
