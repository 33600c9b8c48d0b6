-- What `Goes`, `Does`, `Writes` and their like say of an exit is a function of the entry.
use Prim.Native.Nat.{ℕ, ◌+◌, ◌*◌, ◌/◌, ◌%◌, ◌≤◌}
use native.Mathlib.Omega.{arith}
use mathlib.Core.Path.{◌≡◌, refl, sym, ap, ◌∙◌}
use mathlib.Core.Bool.{Bool, true, false}
use mathlib.Core.List.{List}
use mathlib.Core.HLevel.{is_prop→PathP}
use native.Mathlib.Bridge.{le_prop}
use native.Mathlib.Nat.{ℕ_set}
use lib.ListN.{length}
use lib.Seq.{sets}
use Rattle.rules.specs.declared.Bus.{Bus}
use Rattle.rules.specs.declared.Cpu.{Cpu}
use Rattle.rules.specs.declared.State.{State}
use Rattle.rules.specs.declared.Purpose.{Purpose}
use Rattle.rules.specs.Cycles.{Bank, Cycles, Ran, run}
use Rattle.rules.specs.Bus.{World, world, images, board, list_of}
use Rattle.rules.specs.Record.{record_of}
use Rattle.rules.specs.Opcodes.{decode, is_defined}
use Rattle.rules.specs.Step.{Outcome, opcode_of, left}
use Rattle.wiring.specs.declared.bank.Wiring.{Wiring}
use Rattle.laws.specs.Goes.{Goes, Writes, Does}
use Rattle.laws.specs.States.{moved}
use Rattle.wiring.specs.Wiring.{Banked, banked, Wired}
use Rattle.processor.specs.Executed.{Executed}

-- what `Goes` says of an exit
pub record End (A : Type 0) : Type 0 where
  pub value : A
  pub count : ℕ
  pub bus : Bus
  pub image : List ℕ
  pub list : List ℕ

abbrev end : {A : Type 0} → A → ℕ → Bus → List ℕ → List ℕ → End A
end a n u i l = record { value = a; count = n; bus = u; image = i; list = l }

abbrev end_of : {A : Type 0} → ℕ → List ℕ → Ran (World (List ℕ)) A → End A
end_of k l o = end o.value (k + length o.list) o.after.bus o.after.image (sets l (8 * k) (list_of o.list))

goes_end : {A : Type 0} {t : Cycles A} {k : ℕ} {u : Bus} {i l : List ℕ} {a : A} {n : ℕ} {u' : Bus} {i' l' : List ℕ} →
    Goes t k u i l a n u' i' l' → end a n u' i' l' ≡ end_of k l (run (board images) t (world u i))
goes_end {k = k} {l = l} {a = a} {u' = u'} {i' = i'} g =
    (λ j. end a (sym g.count j) u' i' (sym g.listed j)) ∙ sym (ap (end_of k l) g.ran)

pub goes : {A : Type 0} {t : Cycles A} {k : ℕ} {u : Bus} {i l : List ℕ} {a b : A} {n m : ℕ} {u' u'' : Bus} {i' l' i'' l'' : List ℕ} →
    Goes t k u i l a n u' i' l' → Goes t k u i l b m u'' i'' l'' → end a n u' i' l' ≡ end b m u'' i'' l''
goes g h = goes_end g ∙ sym (goes_end h)

pub does : {t : Cycles Cpu} {k : ℕ} {s : State} {i l : List ℕ} {n m : ℕ} {r' i' l' r'' i'' l'' : List ℕ} →
    Does t k s i l n r' i' l' → Does t k s i l m r'' i'' l'' → left n r' i' l' ≡ left m r'' i'' l''
does {s = s} {n = n} {m = m} {i' = i'} {l' = l'} {i'' = i''} {l'' = l''} d e =
    (λ j. left n (d.bytes j) i' l')
    ∙ (ap (λ (o : End Cpu). left o.count (record_of (moved o.value o.bus s)) o.image o.list) (goes d.goes e.goes)
    ∙ (λ j. left m (sym e.bytes j) i'' l''))

pub writes : {why : Purpose} {κ : Bank} {p v k : ℕ} {s : State} {i l r' i' l' r'' i'' l'' : List ℕ} →
    Writes why κ p v k s i l r' i' l' → Writes why κ p v k s i l r'' i'' l'' → left {A = Unit {0}} tt r' i' l' ≡ left tt r'' i'' l''
writes d e j = let o = goes d.goes e.goes j in left tt ((d.bytes ∙ sym e.bytes) j) o.image o.list

-- the banks tell the length
banked_once : {n m : ℕ} → Banked n → Banked m → n / 65536 ≡ m / 65536 → n ≡ m
banked_once (banked j p) (banked k q) e = omega (arith, p, q, e)

-- wirings of the same numbers are the same
same_wiring : {w w' : Wiring} → w.base ≡ w'.base → w.size ≡ w'.size → w.plain ≡ w'.plain → w.bank ≡ w'.bank → w.pins ≡ w'.pins → w ≡ w'
same_wiring {w = w} {w' = w'} base size plain bank pins j =
    record {
      base = base j;
      size = size j;
      plain = plain j;
      bank = bank j;
      pins = pins j;
      bank_within = is_prop→PathP (λ i. base i + 65536 ≤ size i) (λ i. le_prop) w.bank_within w'.bank_within j;
      whole_banks = is_prop→PathP (λ i. size i % 65536 ≡ 0) (λ i. ℕ_set _ _) w.whole_banks w'.whole_banks j;
    }

pub wired : {κ : Bank} {u : Bus} {w w' : Wiring} → Wired κ w u → Wired κ w' u → w ≡ w'
wired d e =
    same_wiring
    (d.base ∙ sym e.base)
    (banked_once d.banked e.banked (sym d.banks ∙ e.banks))
    (d.plain ∙ sym e.plain)
    (d.bank ∙ sym e.bank)
    (d.pins ∙ sym e.pins)

-- an instruction is executed in one way, or refused
pub executed : {s : State} {i l : List ℕ} {n m : ℕ} {r' i' l' r'' i'' l'' : List ℕ} →
    Executed s i l n r' i' l' → Executed s i l m r'' i'' l'' → left n r' i' l' ≡ left m r'' i'' l''
executed {s} {i} {n = n} {m = m} {r' = r'} {i' = i'} {l' = l'} {r'' = r''} {i'' = i''} {l'' = l''} d e =
    go (is_defined (decode (opcode_of images s i))) refl
  where
    go : (b : Bool) → is_defined (decode (opcode_of images s i)) ≡ b → left n r' i' l' ≡ left m r'' i'' l''
    go true h = does (d.does h).1 (e.does h).1
    go false h =
        let p = d.refuses h in
        let q = e.refuses h in
        λ j. left ((p.0 ∙ sym q.0) j) ((p.1 ∙ sym q.1) j) ((p.2 ∙ sym q.2) j) ((p.3 ∙ sym q.3) j)

-- what is left where the image is not written, and where it is and the record is the second parameter
abbrev pub lent_0_3 : Outcome ℕ (List ℕ) → Unit {0} × (List ℕ × (Unit {0} × (Unit {0} × (List ℕ × Unit {0}))))
lent_0_3 o = (tt, (o.state, (tt, (tt, (o.accesses, tt)))))

abbrev pub lent_1_3_4 : Outcome ℕ (List ℕ) →
    Unit {0} × (Unit {0} × (List ℕ × (Unit {0} × (List ℕ × (List ℕ × Unit {0})))))
lent_1_3_4 o = (tt, (tt, (o.state, (tt, (o.image, (o.accesses, tt))))))
