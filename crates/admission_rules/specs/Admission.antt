-- Admission: the rules of the map as tests with their numbers, and the verdict.
use Rattle.std.specs.Prelude.{ℕ, zero, suc, ◌+◌, ◌-◌, ◌*◌, ◌/◌, ◌%◌, Bool, true, false, not, ◌&&◌, ◌||◌, List, [], ◌∷◌, ◌++◌, ltb, leb}
use Rattle.std.specs.Prelude.{eqb, length, Result, Ok, Err}
use Rattle.std.specs.Result.{result_and}
use Rattle.rules.specs.declared.Mode.{Mode}
use Rattle.rules.specs.declared.Mode.TheVariants.{Immediate, Zero, ZeroX, ZeroY, Absolute, AbsoluteX, AbsoluteY, IndirectX, IndirectY}
use Rattle.rules.specs.declared.Mode.TheVariants.{IndirectBankY}
use Rattle.rules.specs.declared.Stacking.TheVariants.{Php, Plp, Pha, Pla, Rts, Rti}
use Rattle.rules.specs.declared.Instruction.{Instruction}
use Rattle.rules.specs.declared.Instruction.TheVariants.{Read, Store, Change, Accumulator, Implied, AtStack, Branch, Jump, JumpIndirect}
use Rattle.rules.specs.declared.Instruction.TheVariants.{Jsr, Brk, Txs, Cli, Undefined}
use Rattle.rules.specs.declared.Refusal.{Refusal}
use Rattle.rules.specs.declared.Refusal.TheVariants.{Admission, MapRecord, Vectors, Place, StoreAddress, Stack}
use Rattle.rules.specs.declared.Refusal.TheVariants as refusal
use Rattle.rules.specs.Basics.{when◌then◌else◌, at, address, sum16}
use Rattle.rules.specs.Opcodes.{decode, size_of, instruction_of}
use Rattle.rules.specs.Operations.{target}
use Rattle.rules.specs.Bus.{is_protected, Memory}
use Rattle.rules.specs.Answers.{Test, ◌unless◌, tested}
use Rattle.admission_rules.specs.declared.Mark.{Mark}
use Rattle.admission_rules.specs.declared.Successor.{Successor}
use Rattle.admission_rules.specs.declared.Successors.{Successors}
use Rattle.admission_rules.specs.declared.Successors.TheVariants.{None, One, Two}

-- "kind (1 main, 2 routine, 3 handler)"
abbrev pub main : ℕ
main = 1

abbrev pub routine : ℕ
routine = 2

abbrev pub handler : ℕ
handler = 3

-- "a map: 8-byte records with strictly ascending address (low, high), kind (1 main, 2 routine, 3 handler), height, need, three zeros"
abbrev pub mark_at : List ℕ → ℕ → Mark
mark_at map i =
    let k = 8 * i in
    record { address = address (at map k) (at map (k + 1)); kind = at map (k + 2); height = at map (k + 3); need = at map (k + 4) }

abbrev pub marks_in : List ℕ → ℕ
marks_in map = length map / 8

-- one of the map's first n marks is as f says; one of all
abbrev pub some : (Mark → Bool) → List ℕ → ℕ → Bool
some f map zero = false
some f map (suc n) = f (mark_at map n) || some f map n

abbrev pub marked : List ℕ → (Mark → Bool) → Bool
marked map f = some f map (marks_in map)

-- a mark of p with this kind and height
abbrev pub is_mark : ℕ → ℕ → ℕ → Mark → Bool
is_mark p kind height n = eqb n.address p && eqb n.kind kind && eqb n.height height

-- the tests of n records from i on: "the lowest record, and at it the lowest number" is the first that fails
abbrev pub of_records : (ℕ → List Test) → ℕ → ℕ → List Test
of_records f i zero = []
of_records f i (suc n) = f i ++ of_records f (suc i) n

-- 11: "map record malformed or not ascending"
abbrev pub ascends : List ℕ → ℕ → Bool
ascends map zero = true
ascends map (suc i) = ltb (mark_at map i).address (mark_at map (suc i)).address

unfoldable pub mark_tests : List ℕ → ℕ → List Test
mark_tests map i =
    let kind = (mark_at map i).kind in
    MapRecord i unless (leb main kind && leb kind handler) ∷
    MapRecord i unless (eqb (at map (8 * i + 5)) 0 && eqb (at map (8 * i + 6)) 0 && eqb (at map (8 * i + 7)) 0) ∷
    MapRecord i unless ascends map i ∷ []

-- a successor is marked as it is asked to be
abbrev pub reached : List ℕ → Successor → Bool
reached map s = marked map λ n. is_mark s.address s.kind s.height n && leb (n.need + s.more) s.limit

-- What the rules of a record come to: one of 13 to 15 is broken, or (16) these successors are asked for.
abbrev pub Rules : Type 0
Rules = Result Successors Refusal

-- the rules of record i as tests
abbrev pub tests_of : List ℕ → ℕ → Rules → List Test
tests_of map i (Err e) = e unless false ∷ []
tests_of map i (Ok None) = []
tests_of map i (Ok (One s)) = refusal.Successor i unless reached map s ∷ []
tests_of map i (Ok (Two s t)) = refusal.Successor i unless reached map s ∷ refusal.Successor i unless reached map t ∷ []

abbrev pub one : Successor → Rules
one s = Ok (One s)

-- an address that is not from this one to 01FF
abbrev pub outside : ℕ → ℕ → Bool
outside least a = not (leb least a && leb a 0x01FF)

-- "Stores, shifts, INC, DEC: absolute address not 0100 to 01FF; a,X or a,Y base not 0001 to 01FF"; "not .. 81, 91"
abbrev pub store_rules : ℕ → Mode → Result (Unit {0}) Refusal
store_rules i (Immediate v) = Ok tt
store_rules i (Zero z) = Ok tt
store_rules i (ZeroX z) = Ok tt
store_rules i (ZeroY z) = Ok tt
store_rules i (Absolute low high) = when outside 0x0100 (address low high) then Ok tt else Err (StoreAddress i)
store_rules i (AbsoluteX low high) = when outside 0x0001 (address low high) then Ok tt else Err (StoreAddress i)
store_rules i (AbsoluteY low high) = when outside 0x0001 (address low high) then Ok tt else Err (StoreAddress i)
store_rules i (IndirectX z) = Err (Place i)
store_rules i (IndirectY z) = Err (Place i)
store_rules i (IndirectBankY z) = Err (Place i)

module _ (mark : Mark) where
  -- "Each successor .. is marked with the same kind"
  abbrev pub goes_to : ℕ → ℕ → ℕ → ℕ → Successor
  goes_to p height more limit = record { address = p; kind = mark.kind; height = height; more = more; limit = limit }

  -- "all others equal height, need at most this one"
  abbrev pub goes_on : ℕ → Successor
  goes_on p = goes_to p mark.height 0 mark.need

  -- "PHA, PHP height one more, successor's need + 1 at most need"
  abbrev pub goes_up : ℕ → Successor
  goes_up p = goes_to p (mark.height + 1) 1 mark.need

  -- "PLA height one less, successor's need at most need + 1"
  abbrev pub goes_down : ℕ → Successor
  goes_down p = goes_to p (mark.height - 1) 0 (mark.need + 1)

  -- "JSR's target is also a routine of height 0, its need + 2 at most this need."
  abbrev pub calls : ℕ → Successor
  calls p = record { address = p; kind = routine; height = 0; more = 2; limit = mark.need }

  -- "TXS: main, height 0. CLI: main. RTS: routine, height 0. RTI: handler, height 0. PLA: height at least 1."
  abbrev pub is_at_zero : ℕ → Bool
  is_at_zero kind = eqb mark.kind kind && eqb mark.height 0

  -- An instruction's own rules, in the order of their numbers: "not BRK, PLP, JMP (a), 81, 91" (13), stores (14), the five above (15), and
  -- "Each successor (next address, branch or jump target; none for RTS, RTI)" (16). Of its target a JSR holds the low byte alone: the high
  -- one is the second byte after the opcode.
  module _ (i next second : ℕ) where
    abbrev pub rules_of : Instruction → Rules
    rules_of (Read o md) = one (goes_on next)
    rules_of (Store o md) = result_and (store_rules i md) (one (goes_on next))
    rules_of (Change o md) = result_and (store_rules i md) (one (goes_on next))
    rules_of (Accumulator o) = one (goes_on next)
    rules_of (Implied o) = one (goes_on next)
    rules_of (AtStack Php) = one (goes_up next)
    rules_of (AtStack Plp) = Err (Place i)
    rules_of (AtStack Pha) = one (goes_up next)
    rules_of (AtStack Pla) = when leb 1 mark.height then one (goes_down next) else Err (Stack i)
    rules_of (AtStack Rts) = when is_at_zero routine then Ok None else Err (Stack i)
    rules_of (AtStack Rti) = when is_at_zero handler then Ok None else Err (Stack i)
    rules_of (Branch t o) = Ok (Two (goes_on next) (goes_on (target next o)))
    rules_of (Jump low high) = one (goes_on (address low high))
    rules_of (JumpIndirect low high) = Err (Place i)
    rules_of (Jsr low) = Ok (Two (goes_on next) (calls (address low second)))
    rules_of Brk = Err (Place i)
    rules_of Txs = when is_at_zero main then one (goes_on next) else Err (Stack i)
    rules_of Cli = when eqb mark.kind main then one (goes_on next) else Err (Stack i)
    rules_of Undefined = Err (Place i)

module _ {M : Type 0} (memory : Memory M) (m : M) where
  abbrev pub vector_at : ℕ → ℕ
  vector_at p = address (memory.peek m p) (memory.peek m (sum16 p 1))

  -- 12: "FFFC points to main, FFFE to handler, both height 0; their needs + 3 make at most 256"
  unfoldable pub vectors_hold : List ℕ → Bool
  vectors_hold map =
      marked map λ r. is_mark (vector_at 0xFFFC) main 0 r
      && (marked map λ h. is_mark (vector_at 0xFFFE) handler 0 h && leb (r.need + h.need + 3) 256)

  module _ (c : ℕ) (map : List ℕ) where
    -- 10: "image length, c, map length 0, over 65,536 or no multiple of 8"
    abbrev pub input_fits : Bool
    input_fits =
        eqb (memory.size m) 65536 && leb 1 c && leb c 254 && leb 1 (length map) && leb (length map) 65536 && eqb (length map % 8) 0

    -- "the whole instruction lies in protected pages"; "place, undefined or barred opcode"
    unfoldable pub rules_at : ℕ → Rules
    rules_at i =
        let mark = mark_at map i in
        let p = mark.address in
        let entry = decode (memory.peek m p) in
        let high = memory.peek m (sum16 p 2) in
        when is_protected c p && leb (p + size_of entry) 65536
        then rules_of mark i (sum16 p (size_of entry)) high (instruction_of entry (memory.peek m (sum16 p 1)) high)
        else Err (Place i)

    abbrev pub rule_tests : ℕ → List Test
    rule_tests i = tests_of map i (rules_at i)

    -- "Admission: 10; 11, first record; 12; then the lowest record, and at it the lowest number."
    abbrev pub admission_tests : List Test
    admission_tests =
        Admission unless input_fits ∷ of_records (mark_tests map) 0 (marks_in map) ++
        Vectors unless vectors_hold map ∷ of_records rule_tests 0 (marks_in map)

    unfoldable pub admit : Result (Unit {0}) Refusal
    admit = tested admission_tests Err (Ok tt)
