-- Every step of an admitted image, whatever it takes first: RES, IRQ, or the instruction at PC.
use Prim.Native.Nat.{ℕ, ◌+◌, ◌-◌, ◌/◌, ◌%◌, ◌<◌, ◌≤◌}
use native.Mathlib.Omega.{arith}
use mathlib.Core.Path.{◌≡◌, refl, sym, ap, ◌∙◌, subst}
use mathlib.Core.Bool.{Bool, true, false, not, ◌&&◌, false≢true}
use mathlib.Core.List.{List, [], ◌∷◌}
use borrow.Author.Tests.{le-leb, leb-true}
use lib.Dec.{leb}
use lib.ListN.{length, set}
use Rattle.rules.specs.declared.Cpu.{Cpu}
use Rattle.rules.specs.declared.Instruction.{Instruction}
use Rattle.rules.specs.declared.Instruction.TheVariants.{Jsr}
use Rattle.rules.specs.declared.Refusal.TheVariants.{Place}
use Rattle.rules.specs.Basics.{when◌then◌else◌, at, address, sum16}
use Rattle.rules.specs.Cycles.{◌>>=◌}
use Rattle.rules.specs.Flags.{byte_of}
use Rattle.rules.specs.Opcodes.{Entry, undefined, alone, byte, word, late, size_of, is_defined, instruction_of, decode}
use Rattle.rules.specs.Operations.{stack, down, with_pc, enter, perform, instruction}
use Rattle.rules.specs.declared.Event.{Event}
use Rattle.rules.specs.declared.Event.TheVariants.{Res, Nmi, Irq, Execute}
use Rattle.rules.specs.Interrupts.{res_of, nmi_of, irq_of, event_of, interrupt, reset, cycles_of}
use Rattle.rules.specs.Bus.{is_protected}
use Rattle.admission_rules.specs.Admission.{Rules, mark_at, marks_in, tests_of, rules_of, rules_at}
use Rattle.admission_rules.specs.Safety.{Stacked, Effect, clears, pushes, effect_of, effect_at, Unaltered}
use Rattle.laws.proofs.Tests.{Hold, and_left, and_right}
use Rattle.laws.proofs.Entries.{fetched_by}
use Rattle.admission_rules.proofs.Cases.{computed_maps, computed_orders}
use Rattle.admission_rules.proofs.Stacks.{lower, Stands, starts, altered, interrupts}
use Rattle.admission_rules.proofs.Marks.{Admitted}
use Rattle.admission_rules.proofs.Ends.{End, ends}
use Rattle.admission_rules.proofs.Places.{Bytes, unbroken}
use Rattle.admission_rules.proofs.Plain.{p_byte}
use Rattle.admission_rules.proofs.Shapes.{gives, decode_gives, decode_late, on_one, instruction_ends}
use Rattle.admission_rules.proofs.Performs.{Image, Ready, Done, stack_open, stack_page_lem, pushed_image, ended, n, performs, does_jsr}

-- a later byte of an instruction in protected pages is protected too
protected_on : (c a j : ℕ) → is_protected c a ≡ true → a + j < 65536 → is_protected c (sum16 a j) ≡ true
protected_on c a j h l =
    let e : sum16 a j ≡ a + j = omega arith in
    le-leb (256 - c) (sum16 a j / 256) (rw e (omega (arith, leb-true (256 - c) (a / 256) h)))

size_least : (e : Entry) → 1 ≤ size_of e
size_least undefined = omega arith
size_least (alone i) = omega arith
size_least (byte f) = omega arith
size_least (word f) = omega arith
size_least (late f) = omega arith

module _ (m₀ : List ℕ) (c : ℕ) (map : List ℕ) (ad : Admitted m₀ c map) where
  vector_protected : (p : ℕ) → p / 256 ≡ 255 → is_protected c p ≡ true
  vector_protected p h = le-leb (256 - c) (p / 256) (omega (arith, ad.least))

  -- what the instruction at PC does to the number of bytes on the stack
  abbrev pub effect_here : Cpu → List ℕ → Effect
  effect_here u m = effect_of (instruction_of (decode (at m u.pc)) (at m (sum16 u.pc 1)) (at m (sum16 u.pc 2)))

  module _ (u : Cpu) (m : List ℕ) (k : Stacked) (g : Ready m₀ c map ad u m k) where
    abbrev s : Stands map ad.N u.s u.p.i u.pc m k
    s = g.stands

    abbrev low : ℕ
    low = at m (sum16 u.pc 1)

    abbrev high : ℕ
    high = at m (sum16 u.pc 2)

    abbrev a : ℕ
    a = (mark_at map s.i).address

    -- the rules of its record for the instruction x; that they hold
    abbrev rules_here : Instruction → Rules
    rules_here x = rules_of (mark_at map s.i) s.i (n m₀ c map ad u m k g) (at m₀ (sum16 a 2)) x

    abbrev Ruled : Instruction → Type 0
    Ruled x = Hold (tests_of map s.i (rules_here x))

    -- what was admitted there
    abbrev admitted_here : Instruction
    admitted_here = instruction_of (decode (at m₀ a)) (at m₀ (sum16 a 1)) (at m₀ (sum16 a 2))

    pub record Executes : Type 0 where
      pub defined : is_defined (decode (at m u.pc)) ≡ true
      pub done : Done m₀ c map ad (effect_here u m) u.s k (ends c (instruction u) m)

    -- the code at PC is the code that was admitted
    code_here : is_protected c a ≡ true → (j : ℕ) → a + j < 65536 → at m (sum16 u.pc j) ≡ at m₀ (sum16 a j)
    code_here h j l = ap (λ (p : ℕ). at m (sum16 p j)) (sym s.address) ∙ g.image.code (sum16 a j) (protected_on c a j h l)

    entry_here : (e : Entry) → is_protected c a ≡ true → decode (at m₀ a) ≡ e → decode (at m u.pc) ≡ e
    entry_here e h d = ap (λ (p : ℕ). decode (at m p)) (sym s.address) ∙ ap decode (g.image.code a h) ∙ d

    -- what the entry e makes of the bytes at PC, performed where it was fetched, ends as the effect f says
    abbrev Ends : Entry → Effect → Type 0
    Ends e f = Done m₀ c map ad f u.s k (ends c (perform (instruction_of e low high) (with_pc (sum16 u.pc (fetched_by e)) u)) m)

    finish : (e : Entry) → decode (at m u.pc) ≡ e → is_defined e ≡ true → Ends e (effect_of (instruction_of e low high)) → Executes
    finish e d h x =
        let effect = ap (λ (y : Entry). effect_of (instruction_of y low high)) d in
        record {
          defined = ap is_defined d ∙ h;
          done =
              subst (λ (y : End Cpu). Done m₀ c map ad (effect_here u m) u.s k y) (sym (instruction_ends c u m e d h))
              (subst (λ (y : Effect). Ends e y) (sym effect) x);
        }

    -- PC past the whole instruction, as the rules have it
    next_is : (e : Entry) → decode (at m₀ a) ≡ e → n m₀ c map ad u m k g ≡ sum16 u.pc (size_of e)
    next_is e d = ap (λ (x : Entry). sum16 a (size_of x)) d ∙ ap (λ (p : ℕ). sum16 p (size_of e)) s.address

    -- of an instruction that was fetched whole, with the operand x
    whole : (e : Entry) → is_protected c a ≡ true → decode (at m₀ a) ≡ e → is_defined e ≡ true → fetched_by e ≡ size_of e →
        (wide : Bool) → gives wide low high (instruction_of e low high) ≡ (low, high) →
        Ruled (instruction_of e low high) → Executes
    whole e h d def size wide takes t =
        let i = instruction_of e low high in
        let there = next_is e d ∙ ap (sum16 u.pc) (sym size) in
        finish e (entry_here e h d) def
        (subst (λ (p : ℕ). Done m₀ c map ad (effect_of i) u.s k (ends c (perform i (with_pc p u)) m)) there
        (performs m₀ c map ad u m k g i wide low high takes (g.image.bytes (sum16 u.pc 1)) (g.image.bytes (sum16 u.pc 2)) t))

    -- "the whole instruction lies in protected pages", and what is at PC keeps its rules
    record Kept : Type 0 where
      protected : is_protected c a ≡ true
      fits : leb (a + size_of (decode (at m₀ a))) 65536 ≡ true
      ruled : Ruled admitted_here

    kept : Kept
    unfolding rules_at
    kept =
        -- what was computed of the rules comes before what they mean here
        let maps = computed_maps in
        let orders = computed_orders in
        let fits = leb (a + size_of (decode (at m₀ a))) 65536 in
        let its = ad.rules s.i s.goes.within in
        let t = unbroken map s.i (is_protected c a && fits) (Place s.i) (rules_here admitted_here) its in
        record { protected = and_left _ _ t.0; fits = and_right (is_protected c a) _ t.0; ruled = t.1 }

    pub executes : Executes
    executes = go (decode (at m₀ a)) refl kept.protected kept.fits kept.ruled
      where
        go : (e : Entry) → decode (at m₀ a) ≡ e → is_protected c a ≡ true → leb (a + size_of e) 65536 ≡ true →
            Ruled (instruction_of e (at m₀ (sum16 a 1)) (at m₀ (sum16 a 2))) → Executes
        go undefined d h l t = absurd (false≢true t.0)
        go (alone i) d h l t = whole (alone i) h d refl refl false (rw d at (decode_gives (at m₀ a) low high)) t
        go (byte f) d h l t =
            let same = code_here h 1 (omega (arith, leb-true (a + 2) 65536 l)) in
            whole (byte f) h d refl refl false (rw d at (decode_gives (at m₀ a) low high)) (rw same t)
        go (word f) d h l t =
            let same₁ = code_here h 1 (omega (arith, leb-true (a + 3) 65536 l)) in
            let same₂ = code_here h 2 (omega (arith, leb-true (a + 3) 65536 l)) in
            whole (word f) h d refl refl true (rw d at (decode_gives (at m₀ a) low high)) (rw (same₁, same₂) t)
        go (late f) d h l t =
            let call : f low ≡ Jsr low = rw d at (decode_late (at m₀ a) low) in
            let same = code_here h 1 (omega (arith, leb-true (a + 3) 65536 l)) in
            let p = sum16 u.pc 2 in
            let past = on_one u.pc 2 ∙ sym (next_is (late f) d) in
            let at_pc : is_protected c p ≡ is_protected c (sum16 a 2) = ap (λ (q : ℕ). is_protected c (sum16 q 2)) (sym s.address) in
            let code = at_pc ∙ protected_on c a 2 h (omega (arith, leb-true (a + 3) 65536 l)) in
            finish (late f) (entry_here (late f) h d) refl
            (subst (λ (i : Instruction). Done m₀ c map ad (effect_of i) u.s k (ends c (perform i (with_pc p u)) m)) (sym call)
            (does_jsr m₀ c map ad u m k g low p (omega arith) past code (ap (λ (q : ℕ). at m₀ (sum16 q 2)) (sym s.address))
            (subst Ruled (ap f (sym same) ∙ call) t)))

    pc_16 : u.pc < 65536
    pc_16 =
        let l = leb-true (a + size_of (decode (at m₀ a))) 65536 kept.fits in
        omega (arith, s.address, size_least (decode (at m₀ a)))

    -- IRQ: the vector, read after the pushes, is the one that was admitted
    requested : u.p.i ≡ false → Done m₀ c map ad (pushes 3) u.s k (ends c (interrupt 0xFFFE u) m)
    unfolding interrupt enter ends ◌>>=◌
    requested clear =
        let r = g.registers in
        let s₁ : down 1 u.s < 256 = omega arith in
        let s₂ : down 2 u.s < 256 = omega arith in
        let m₁ = set m (stack u.s) (u.pc / 256) in
        let m₂ = set m₁ (stack (down 1 u.s)) (u.pc % 256) in
        let m₃ = set m₂ (stack (down 2 u.s)) (byte_of u.p) in
        let image₁ = pushed_image m₀ c map ad m u.s (u.pc / 256) r.s (omega (arith, pc_16)) g.image in
        let image₂ = pushed_image m₀ c map ad m₁ (down 1 u.s) (u.pc % 256) s₁ (omega arith) image₁ in
        let image₃ = pushed_image m₀ c map ad m₂ (down 2 u.s) (byte_of u.p) s₂ (omega (arith, p_byte u.p)) image₂ in
        let whole : address (u.pc % 256) (u.pc / 256) ≡ u.pc = omega arith in
        rw (
          stack_open m₀ c map ad u.s r.s,
          stack_open m₀ c map ad (down 1 u.s) s₁,
          stack_open m₀ c map ad (down 2 u.s) s₂,
          stack_page_lem m₀ c map ad u.s r.s,
          stack_page_lem m₀ c map ad (down 1 u.s) s₁,
          stack_page_lem m₀ c map ad (down 2 u.s) s₂,
        )
        (ended m₀ c map ad r r.a (omega arith)
        (ap (λ (t : ℕ). stack u.s ∷ stack (down 1 u.s) ∷ stack t ∷ []) (sym (lower u.s 1 r.s (omega arith))))
        (interrupts map ad.N u.s u.p.i u.pc m k s clear r.s g.image.size (byte_of u.p) (u.pc % 256)
        (u.pc / 256) (address (at m₃ 0xFFFE) (at m₃ 0xFFFF)) ad.H whole ad.room
        (rw (image₃.code 0xFFFE (vector_protected 0xFFFE refl), image₃.code 0xFFFF (vector_protected 0xFFFF refl)) ad.serves))
        image₃)

  -- RES: three reads of the stack in place of the pushes
  started : (u : Cpu) (m : List ℕ) (k : Stacked) → Bytes u → Image m₀ c map ad m → Done m₀ c map ad clears u.s k (ends c (reset u) m)
  unfolding reset enter ends ◌>>=◌
  started u m k r i =
      ended m₀ c map ad r r.a (omega arith) refl
      (starts map ad.N (down 3 u.s) true (address (at m 0xFFFC) (at m 0xFFFD)) m
      (rw (i.code 0xFFFC (vector_protected 0xFFFC refl), i.code 0xFFFD (vector_protected 0xFFFD refl)) ad.starts))
      i

  -- a step that takes the event e, where k bytes were on the stack
  pub record Well (e : Event) (u : Cpu) (m : List ℕ) (k : Stacked) : Type 0 where
    pub defined : e ≡ Execute → is_defined (decode (at m u.pc)) ≡ true
    pub named : e ≡ Execute → (i : ℕ) × (i < marks_in map) × ((mark_at map i).address ≡ u.pc)
    pub done : Done m₀ c map ad (effect_at e (effect_here u m)) u.s k (ends c (cycles_of e u) m)

  -- a step that executes nothing
  away : {e : Event} {u : Cpu} {m : List ℕ} {k : Stacked} → (e ≡ Execute → ⊥) →
      Done m₀ c map ad (effect_at e (effect_here u m)) u.s k (ends c (cycles_of e u) m) → Well e u m k
  away other d = record { defined = λ h. absurd (other h); named = λ h. absurd (other h); done = d }

  pub well_reset : (u : Cpu) (m : List ℕ) (k : Stacked) → Bytes u → Image m₀ c map ad m → Well Res u m k
  unfolding cycles_of
  well_reset u m k r i = away (λ e. let z : ◌≡◌ {A = ℕ} 0 1 = cc in omega arith) (started u m k r i)

  pub well : (u : Cpu) (m : List ℕ) (k : Stacked) → Ready m₀ c map ad u m k → (lines : ℕ) (last : Bool) →
      nmi_of lines ≡ false → Well (event_of lines last u) u m k
  unfolding event_of cycles_of
  well u m k g lines last quiet = go (res_of lines) (nmi_of lines) quiet (irq_of lines) u.p.i refl
    where
      runs : Well Execute u m k
      runs =
          let x = executes u m k g in
          let s = g.stands in
          record { defined = λ e. x.defined; named = λ e. (s.i, s.goes.within, s.address); done = x.done }

      go : (r n : Bool) → n ≡ false → (q i : Bool) → u.p.i ≡ i →
          Well (when r then Res else when n && not last then Nmi else when q && not i then Irq else Execute) u m k
      go true n z q i e = well_reset u m k g.registers g.image
      go false true z q i e = absurd (false≢true (sym z))
      go false false z true false e = away (λ h. let z : ◌≡◌ {A = ℕ} 0 1 = cc in omega arith) (requested u m k g e)
      go false false z true true e = runs
      go false false z false i e = runs

  -- between two steps
  pub others_image : (m m' : List ℕ) → length m ≡ 65536 → ((p : ℕ) → is_protected c p ≡ true → at m p ≡ at m₀ p) → Unaltered c m m' →
      Image m₀ c map ad m'
  others_image m m' size code o =
      record { size = o.size ∙ size; bytes = o.bytes; code = λ p h. o.protected_pages p h ∙ code p h }

  pub others : (u : Cpu) (m m' : List ℕ) (k : Stacked) → Ready m₀ c map ad u m k → Unaltered c m m' → Ready m₀ c map ad u m' k
  others u m m' k g o =
      record {
        stands = altered map ad.N u.s u.p.i u.pc m k g.stands m' o.stack_page;
        registers = g.registers;
        image = others_image m m' g.image.size g.image.code o;
      }
