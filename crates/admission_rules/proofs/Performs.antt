-- Each instruction of an admitted image, as its rules let it stand in the map, leaves the stack as the map says.
use Prim.Native.Nat.{ℕ, suc, ◌+◌, ◌-◌, ◌/◌, ◌%◌, ◌<◌, ◌≤◌}
use native.Mathlib.Omega.{arith}
use mathlib.Core.Path.{◌≡◌, refl, sym, ap, ◌∙◌}
use mathlib.Core.Bool.{Bool, true, false, false≢true}
use mathlib.Core.List.{List}
use borrow.Author.Tests.{lt-leb, leb-true, eq-eqb, eqb-true}
use lib.Dec.{leb, eqb}
use lib.ListN.{length, set, length-set}
use lib.Seq.{get_or-set_other}
use Rattle.rules.specs.declared.Flags.{Flags}
use Rattle.rules.specs.declared.Cpu.{Cpu}
use Rattle.rules.specs.declared.Mode.{Mode}
use Rattle.rules.specs.declared.Reading.{Reading}
use Rattle.rules.specs.declared.Storing.{Storing}
use Rattle.rules.specs.declared.Changing.{Changing}
use Rattle.rules.specs.declared.Internal.{Internal}
use Rattle.rules.specs.declared.Condition.{Condition}
use Rattle.rules.specs.declared.Stacking.TheVariants.{Php, Plp, Pha, Pla, Rts, Rti}
use Rattle.rules.specs.declared.Instruction.{Instruction}
use Rattle.rules.specs.declared.Instruction.TheVariants.{Read, Store, Change, Accumulator, Implied, AtStack, Branch, Jump, JumpIndirect}
use Rattle.rules.specs.declared.Instruction.TheVariants.{Jsr, Brk, Txs, Cli, Undefined}
use Rattle.rules.specs.declared.Refusal.TheVariants.{Stack}
use Rattle.rules.specs.Basics.{when◌then◌else◌, at, address, sum8, sum16}
use Rattle.rules.specs.Cycles.{Cycles, ◌>>=◌}
use Rattle.rules.specs.Flags.{byte_of4, flags_of}
use Rattle.rules.specs.Addressing.{load, place}
use Rattle.rules.specs.Opcodes.{size_of, decode}
use Rattle.rules.specs.Operations.{stack, down, with_pc, used, taken, target, branch_to, push, pull, rts, rti, jsr, perform}
use Rattle.rules.specs.Bus.{is_protected}
use Rattle.admission_rules.specs.declared.Mark.{Mark}
use Rattle.std.specs.Prelude.{Ok, Err}
use Rattle.admission_rules.specs.declared.Successors.TheVariants as successors
use Rattle.admission_rules.specs.Admission.{mark_at, main, routine, handler, reached, tests_of, one, goes_on, goes_up, goes_down}
use Rattle.admission_rules.specs.Admission.{Rules, is_at_zero, rules_of}
use Rattle.admission_rules.specs.Safety.{Stacked, Effect, none, pushes, effect_of, stacked_after, pushes_of}
use Rattle.laws.proofs.Tests.{Hold, if_case, and_left, and_right}
use Rattle.admission_rules.proofs.Stacks.{Stands, Leads, starts, alone, stays, pushes_one, pulls_one, calls, returns, goes_back}
use Rattle.admission_rules.proofs.Marks.{Admitted, leads_to}
use Rattle.admission_rules.proofs.Ends.{End, ends}
use Rattle.admission_rules.proofs.Calm.{OffPage, Calm, calm_bind, set_byte, calmly}
use Rattle.admission_rules.proofs.Places.{Bytes, Small, load_calm, unbroken, place_calm}
use Rattle.admission_rules.proofs.Plain.{To, On, used_on, inside_on, same_on, changed_on, changed_good, accumulator_on}
use Rattle.admission_rules.proofs.Plain.{register_byte, p_byte}
use Rattle.admission_rules.proofs.Shapes.{gives, small}

module _ (m₀ : List ℕ) (c : ℕ) (map : List ℕ) (ad : Admitted m₀ c map) where
  -- an image whose protected pages are as they were admitted
  pub record Image (m : List ℕ) : Type 0 where
    pub size : length m ≡ 65536
    pub bytes : (p : ℕ) → at m p < 256
    pub code : (p : ℕ) → is_protected c p ≡ true → at m p ≡ at m₀ p

  -- between two steps: the registers u and the image m, with k bytes on the stack
  pub record Ready (u : Cpu) (m : List ℕ) (k : Stacked) : Type 0 where
    pub stands : Stands map ad.N u.s u.p.i u.pc m k
    pub registers : Bytes u
    pub image : Image m

  -- an end that is as an effect says, from S on and with k bytes on the stack
  pub record Done (e : Effect) (s : ℕ) (k : Stacked) (x : End Cpu) : Type 0 where
    pub only : x.writes ≡ pushes_of e s
    pub next : Ready x.value x.image (stacked_after e k)

  pub few : ad.N ≤ 253
  few = omega (arith, ad.room)

  -- the stack page is not protected
  pub stack_open : (s : ℕ) → s < 256 → is_protected c (stack s) ≡ false
  stack_open s h = lt-leb (256 - c) (stack s / 256) (omega (arith, ad.most))

  pub stack_page_lem : (s : ℕ) → s < 256 → eqb (stack s / 256) 1 ≡ true
  stack_page_lem s h = eq-eqb (stack s / 256) 1 (omega arith)

  pub pushed_image : (m : List ℕ) (s x : ℕ) → s < 256 → x < 256 → Image m → Image (set m (stack s) x)
  pushed_image m s x hs hx i =
      record {
        size = length-set m (stack s) x ∙ i.size;
        bytes = set_byte m (stack s) x hx i.bytes;
        code = λ q h.
            get_or-set_other m (stack s) q x 0 (λ e. false≢true (sym (stack_open s hs) ∙ ap (is_protected c) (sym e) ∙ h)) ∙ i.code q h;
      }

  -- an end at which X and Y are as they were
  pub ended : {e : Effect} {u : Cpu} {k : Stacked} {a s pc : ℕ} {f : Flags} {m l : List ℕ} → Bytes u → a < 256 → s < 256 →
      l ≡ pushes_of e u.s → Stands map ad.N s f.i pc m (stacked_after e k) → Image m →
      Done e u.s k (record { value = record { a = a; x = u.x; y = u.y; s = s; p = f; pc = pc }; image = m; writes = l })
  ended b ha hs only stands image =
      record { only = only; next = record { stands = stands; registers = record { a = ha; x = b.x; y = b.y; s = hs }; image = image } }

  module _ (u : Cpu) (m : List ℕ) (k : Stacked) (g : Ready u m k) where
    abbrev pub v : Stands map ad.N u.s u.p.i u.pc m k
    v = g.stands

    abbrev pub mark : Mark
    mark = mark_at map v.i

    -- where a step may go on in the same routine
    abbrev pub Follows : ℕ → Type 0
    Follows p = Leads map p mark.kind mark.height 0 mark.need

    -- a plain instruction goes on somewhere that follows
    record Lands (d : Cpu) : Type 0 where
      n : ℕ
      follows : Follows n
      to : To u.s u.p.i n d

    lands : (n : ℕ) → Follows n → (d : Cpu) → To u.s u.p.i n d → Lands d
    lands n f d t = record { n = n; follows = f; to = t }

    calm_done : (t : Cycles Cpu) → Calm Lands t → Done none u.s k (ends c t m)
    calm_done t q =
        let r = calmly Lands c t m g.image.bytes q in
        let to = r.value.to in
        let d = (ends c t m).value in
        let s = stays map ad.N u.s u.p.i u.pc m k v d.p.i r.value.n (ends c t m).image r.value.follows
        (λ h. to.masks (v.masked h)) r.kept.stack_page in
        record {
          only = r.quiet;
          next =
              record {
                stands = rw (to.stays, to.pc) s;
                registers = to.bytes;
                image =
                    record {
                      size = r.kept.size ∙ g.image.size;
                      bytes = r.kept.bytes;
                      code = λ p h. r.kept.protected_pages p h ∙ g.image.code p h;
                    };
              };
        }

    at_pc : (n : ℕ) → Bytes (with_pc n u)
    at_pc n = let w = g.registers in record { a = w.a; x = w.x; y = w.y; s = w.s }

    -- "next address", where PC stands when the whole instruction was fetched
    abbrev pub n : ℕ
    n = sum16 mark.address (size_of (decode (at m₀ mark.address)))

    -- the second byte after the opcode, as it was admitted
    abbrev pub high : ℕ
    high = at m₀ (sum16 mark.address 2)

    abbrev Ruled : Instruction → Type 0
    Ruled i = Hold (tests_of map v.i (rules_of mark v.i n high i))

    abbrev pub w : Cpu
    w = with_pc n u

    -- what the instruction i does from there
    abbrev Does : Instruction → Type 0
    Does i = Done (effect_of i) u.s k (ends c (perform i w) m)

    follows : (p : ℕ) → reached map (goes_on mark p) ≡ true → Follows p
    follows p h = leads_to map p mark.kind mark.height 0 mark.need h

    next_lands : Follows n → (d : Cpu) → On w d → Lands d
    next_lands f d t = lands n f d t

    does_read : (o : Reading) (d : Mode) → Small d → Ruled (Read o d) → Does (Read o d)
    unfolding perform
    does_read o d h t =
        calm_done _ (calm_bind (λ x. x < 256) Lands (load w d) _ (load_calm w d h)
        (λ x q. next_lands (follows n t.0) (used o x w) (used_on o x w (at_pc n) q)))

    does_store : (o : Storing) (d : Mode) → Small d → Ruled (Store o d) → Does (Store o d)
    unfolding perform
    does_store o d h t =
        let s = place_calm map v.i w d _ (at_pc n) h t in
        let on = follows n s.follows in
        calm_done _ (calm_bind OffPage Lands (place w d) _ s.calm
        (λ p off. (off, register_byte o w (at_pc n), next_lands on w (same_on w (at_pc n)))))

    does_change : (o : Changing) (d : Mode) → Small d → Ruled (Change o d) → Does (Change o d)
    unfolding perform ◌>>=◌
    does_change o d h t =
        let s = place_calm map v.i w d _ (at_pc n) h t in
        let on = follows n s.follows in
        calm_done _ (calm_bind OffPage Lands (place w d) _ s.calm
        (λ p off x q. (off, q, (off, (changed_good o x u.p q).value, next_lands on _ (changed_on o x w (at_pc n) q)))))

    does_accumulator : (o : Changing) → Ruled (Accumulator o) → Does (Accumulator o)
    unfolding perform
    does_accumulator o t = calm_done _ (next_lands (follows n t.0) _ (accumulator_on o w (at_pc n)))

    does_implied : (o : Internal) → Ruled (Implied o) → Does (Implied o)
    unfolding perform
    does_implied o t = calm_done _ (next_lands (follows n t.0) _ (inside_on o w (at_pc n)))

    -- at another address, the registers as they are
    there : (p : ℕ) → Follows p → Lands (with_pc p w)
    there p f = lands p f (with_pc p w) (same_on (with_pc p w) (at_pc p))

    does_branch : (x : Condition) (o : ℕ) → Ruled (Branch x o) → Does (Branch x o)
    unfolding perform branch_to ◌>>=◌
    does_branch x o t =
        let to = target n o in
        let f = follows to t.1.0 in
        calm_done _ (if_case (Calm Lands) (taken x u.p) _ _
        (λ h y q. if_case (Calm Lands) (eqb (to / 256) (n / 256)) _ _ (λ e. there to f) (λ e z r. there to f))
        (λ h. there n (follows n t.0)))

    does_jump : (low high : ℕ) → Ruled (Jump low high) → Does (Jump low high)
    unfolding perform
    does_jump low high t = let a = address low high in calm_done _ (there a (follows a t.0))

    -- one more on the stack: PHA, PHP
    does_push : (x : ℕ) → x < 256 → reached map (goes_up mark n) ≡ true → Done (pushes 1) u.s k (ends c (push x w) m)
    unfolding push ends ◌>>=◌
    does_push x h f =
        let r = g.registers in
        let up = leads_to map n mark.kind (mark.height + 1) 1 mark.need f in
        rw (stack_open u.s r.s, stack_page_lem u.s r.s)
        (ended r r.a (omega arith) refl
        (pushes_one map ad.N u.s u.p.i u.pc m k v few r.s g.image.size x n up)
        (pushed_image m u.s x r.s h g.image))

    -- a rule of 15 holds, and the rules r behind it
    behind : (b : Bool) (r : Rules) → Hold (tests_of map v.i (when b then r else Err (Stack v.i))) →
        (b ≡ true) × Hold (tests_of map v.i r)
    behind b r t = unbroken map v.i b (Stack v.i) r t

    does_pla : Ruled (AtStack Pla) → Does (AtStack Pla)
    unfolding perform pull ends ◌>>=◌
    does_pla t =
        let b = behind (leb 1 mark.height) (one (goes_down mark n)) t in
        ended g.registers (g.image.bytes _) (omega arith) refl
        (pulls_one map ad.N u.s u.p.i u.pc m k v n (leb-true 1 mark.height b.0)
        (leads_to map n mark.kind (mark.height - 1) 0 (mark.need + 1) b.1.0))
        g.image

    abbrev none_follows : Rules
    none_follows = Ok successors.None

    at_zero : (kind : ℕ) → is_at_zero mark kind ≡ true → (mark.kind ≡ kind) × (mark.height ≡ 0)
    at_zero kind h =
        let a = eqb mark.kind kind in
        let z = eqb mark.height 0 in
        (eqb-true _ _ (and_left a z h), eqb-true _ _ (and_right a z h))

    does_rts : Ruled (AtStack Rts) → Does (AtStack Rts)
    unfolding perform rts ends ◌>>=◌
    does_rts t =
        let z = at_zero routine (behind (is_at_zero mark routine) none_follows t).0 in
        let r = g.registers in
        ended r r.a (omega arith) refl (returns map ad.N u.s u.p.i u.pc m k v z.0 z.1) g.image

    does_rti : Ruled (AtStack Rti) → Does (AtStack Rti)
    unfolding perform rti ends ◌>>=◌
    does_rti t =
        let z = at_zero handler (behind (is_at_zero mark handler) none_follows t).0 in
        let r = g.registers in
        ended r r.a (omega arith) refl
        (goes_back map ad.N u.s u.p.i u.pc m k v (flags_of (at m (stack (sum8 u.s 1)))).i z.0 z.1) g.image

    does_txs : Ruled Txs → Does Txs
    unfolding perform ends
    does_txs t =
        let b = behind (is_at_zero mark main) (one (goes_on mark n)) t in
        let z = at_zero main b.0 in
        let on = follows n b.1.0 in
        let idle = alone map ad.N u.s u.p.i u.pc m k v z.0 in
        let r = g.registers in
        ended r r.a r.x refl
        (starts map ad.N u.x u.p.i n m
        (record {
          i = on.i;
          within = on.within;
          address = on.address;
          kind = on.kind ∙ z.0;
          height = on.height ∙ z.1;
          need = omega (arith, on.need, idle.1);
        }))
        g.image

    -- CLI stands in the main program, where no handler runs
    does_cli : Ruled Cli → Does Cli
    unfolding perform ends
    does_cli t =
        let b = behind (eqb mark.kind main) (one (goes_on mark n)) t in
        let idle = alone map ad.N u.s u.p.i u.pc m k v (eqb-true _ _ b.0) in
        let r = g.registers in
        ended r r.a r.s refl
        (stays map ad.N u.s u.p.i u.pc m k v false n m (follows n b.1.0) (λ h. sym idle.0 ∙ h) (λ p h. refl))
        g.image

    -- JSR: "low, read at S, push PC+2 high, low, then high operand"; PC stands at the high operand, which the pushes leave as it is
    pub does_jsr : (low p : ℕ) → p < 65536 → sum16 p 1 ≡ n → is_protected c p ≡ true → at m₀ p ≡ high →
        Ruled (Jsr low) → Done (pushes 2) u.s k (ends c (perform (Jsr low) (with_pc p u)) m)
    unfolding perform jsr ends ◌>>=◌
    does_jsr low p h on code to t =
        let r = g.registers in
        let s₁ : down 1 u.s < 256 = omega arith in
        let whole : address (p % 256) (p / 256) ≡ p = omega arith in
        let m₁ = set m (stack u.s) (p / 256) in
        let m₂ = set m₁ (stack (down 1 u.s)) (p % 256) in
        let image₁ = pushed_image m u.s (p / 256) r.s (omega arith) g.image in
        let image = pushed_image m₁ (down 1 u.s) (p % 256) s₁ (omega arith) image₁ in
        let there = ap (address low) (image.code p code ∙ to) in
        rw (stack_open u.s r.s, stack_page_lem u.s r.s, stack_open (down 1 u.s) s₁, stack_page_lem (down 1 u.s) s₁)
        (ended r r.a (omega arith) refl
        (calls map ad.N u.s u.p.i u.pc m k v few r.s g.image.size (p % 256) (p / 256) n (address low (at m₂ p))
        (rw whole on) (follows n t.0) (rw there (leads_to map _ routine 0 2 mark.need t.1.0)))
        image)

    -- an instruction that was fetched whole
    pub performs : (i : Instruction) (wide : Bool) (l h : ℕ) → gives wide l h i ≡ (l, h) → l < 256 → h < 256 → Ruled i → Does i
    unfolding perform
    performs (Read o d) wide l h e b b' t = does_read o d (small wide l h d e b b') t
    performs (Store o d) wide l h e b b' t = does_store o d (small wide l h d e b b') t
    performs (Change o d) wide l h e b b' t = does_change o d (small wide l h d e b b') t
    performs (Accumulator o) wide l h e b b' t = does_accumulator o t
    performs (Implied o) wide l h e b b' t = does_implied o t
    performs (AtStack Php) wide l h e b b' t = does_push (byte_of4 u.p) (p_byte u.p) t.0
    performs (AtStack Plp) wide l h e b b' t = absurd (false≢true t.0)
    performs (AtStack Pha) wide l h e b b' t = does_push u.a g.registers.a t.0
    performs (AtStack Pla) wide l h e b b' t = does_pla t
    performs (AtStack Rts) wide l h e b b' t = does_rts t
    performs (AtStack Rti) wide l h e b b' t = does_rti t
    performs (Branch y o) wide l h e b b' t = does_branch y o t
    performs (Jump low high) wide l h e b b' t = does_jump low high t
    performs (JumpIndirect low high) wide l h e b b' t = absurd (false≢true t.0)
    performs (Jsr low) wide l h e b b' t = let z : suc l ≡ l = ap (λ (q : ℕ × ℕ). q.0) e in absurd (omega arith)
    performs Brk wide l h e b b' t = absurd (false≢true t.0)
    performs Txs wide l h e b b' t = does_txs t
    performs Cli wide l h e b b' t = does_cli t
    performs Undefined wide l h e b b' t = absurd (false≢true t.0)
