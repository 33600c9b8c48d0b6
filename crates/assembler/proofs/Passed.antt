-- What a pass has made so far, line by line.
use Rattle.std.proofs.Common.{◌≡◌, ℕ, suc, ◌+◌, ◌≤◌, Bool, true, false, leb, List, [], ◌∷◌, ◌++◌, length, drop, Result, Ok, Err, sym, refl}
use Rattle.std.proofs.Common.{ap, ◌∙◌, add-one, arith, length-append, length-drop, drop-drop, leb-true}
use lib.Seq.{sets, sets-eq, drop-append-add, take-append_seam}
use Rattle.rules.specs.Basics.{when◌then◌else◌, sum16}
use Rattle.rules.specs.Step.{front}
use Rattle.assembly_rules.specs.declared.Fault.{Fault}
use Rattle.assembly_rules.specs.declared.Line.{Line}
use Rattle.assembly_rules.specs.declared.Line.TheVariants.{Nothing, One, Two, Three}
use Rattle.assembly_rules.specs.declared.BadLine.{BadLine}
use Rattle.assembly_rules.specs.Lines.{line_of}
use Rattle.assembly_rules.specs.Assembly.{lines_of, Made, made, wrong, fitted, judged, lines, assembled}
use Rattle.assembler.specs.Passes.{bytes_of, fitted_to, step_to, Passes}
use Rattle.assembler.specs.Cuts.{Cuts}

-- A line, where it fits behind those before it and where not.
pub record Goes (room n count total : ℕ) (before bytes : List ℕ) (go_on : List ℕ → Made) (m : Made) : Type 0 where
  pub same : m ≡ go_on (before ++ bytes)
  pub size : total ≡ count + length bytes
  pub fits : total ≤ room

module _ (room n count : ℕ) (before : List ℕ) (go_on : List ℕ → Made) (e : length before ≡ count) where
  fits_go : (total : ℕ) (bytes : List ℕ) → fitted_to room count (length bytes) ≡ Ok total →
      Goes room n count total before bytes go_on (fitted room n before go_on bytes)
  fits_go total bytes h = rw e (go (leb (count + length bytes) room) refl h)
    where
      go : (b : Bool) → leb (count + length bytes) room ≡ b → (when b then Ok (count + length bytes) else Err Fault.NoRoom) ≡ Ok total →
          Goes room n count total before bytes go_on (when b then go_on (before ++ bytes) else wrong Fault.NoRoom n)
      go true f g =
          let t : total ≡ count + length bytes = cc in
          record { same = refl; size = t; fits = rw t (leb-true (count + length bytes) room f) }
      go false f g = cc

  pub judged_go : (total : ℕ) (l : Line) → step_to room count l ≡ Ok total →
      Goes room n count total before (bytes_of l) go_on (judged room n before go_on (Ok l))
  judged_go total Nothing h = fits_go total [] h
  judged_go total (One a) h = fits_go total (a ∷ []) h
  judged_go total (Two a b) h = fits_go total (a ∷ b ∷ []) h
  judged_go total (Three a b c) h = fits_go total (a ∷ b ∷ c ∷ []) h

  fits_stop : (f : Fault) (bytes : List ℕ) → fitted_to room count (length bytes) ≡ Err f → fitted room n before go_on bytes ≡ wrong f n
  fits_stop f bytes h = rw e (go (leb (count + length bytes) room) h)
    where
      go : (b : Bool) → (when b then Ok (count + length bytes) else Err Fault.NoRoom) ≡ Err f →
          (when b then go_on (before ++ bytes) else wrong Fault.NoRoom n) ≡ wrong f n
      go true g = cc
      go false g = let t : Fault.NoRoom ≡ f = cc in rw t

  pub judged_stop : (f : Fault) (l : Line) → step_to room count l ≡ Err f → judged room n before go_on (Ok l) ≡ wrong f n
  judged_stop f Nothing h = fits_stop f [] h
  judged_stop f (One a) h = fits_stop f (a ∷ []) h
  judged_stop f (Two a b) h = fits_stop f (a ∷ b ∷ []) h
  judged_stop f (Three a b c) h = fits_stop f (a ∷ b ∷ c ∷ []) h

front_size : (before buffer : List ℕ) → length before ≤ length buffer → length (front before buffer) ≡ length buffer
front_size before buffer h =
    length-append before (drop (length before) buffer) ∙ (rw (length-drop (length before) buffer) (omega arith))

-- bytes behind those at a buffer's front
front_more : (before bytes buffer : List ℕ) (count : ℕ) → length before ≡ count → count + length bytes ≤ length buffer →
    sets (front before buffer) count bytes ≡ front (before ++ bytes) buffer
front_more before bytes buffer count e h =
    let rest = drop (length before) buffer in
    let size = front_size before buffer (omega (arith, e, h)) in
    rw (← e)
    (sets-eq bytes (front before buffer) (length before) (omega (arith, size, e, h))
    ∙ (rw (
      take-append_seam before rest,
      drop-append-add before rest (length bytes),
      drop-drop (length bytes) (length before) buffer,
      length-append before bytes,
    )))

-- a buffer as a pass leaves it
abbrev shown : Bool → List ℕ → List ℕ → List ℕ
shown writing before buffer = when writing then front before buffer else buffer

shown_more : (writing : Bool) (before bytes buffer : List ℕ) (count : ℕ) → length before ≡ count → count + length bytes ≤ length buffer →
    (when writing then sets (shown writing before buffer) count bytes else shown writing before buffer) ≡
    shown writing (before ++ bytes) buffer
shown_more true before bytes buffer count e h = front_more before bytes buffer count e h
shown_more false before bytes buffer count e h = refl

-- the lines before the rest have made these bytes
pub record Passing (text : List ℕ) (start : ℕ) (buffer : List ℕ) (writing : Bool) (bytes rest : List ℕ) (n count : ℕ) : Type 0 where
  pub before : List ℕ
  pub size : length before ≡ count
  pub fits : count ≤ length buffer
  pub few : n + length rest ≤ length text + 1
  pub same : assembled start (length buffer) text ≡ lines start (length buffer) n before (lines_of rest)
  pub kept : bytes ≡ shown writing before buffer

module _ {text : List ℕ} {start : ℕ} {buffer : List ℕ} {writing : Bool} {bytes rest : List ℕ} {n count : ℕ}
    (p : Passing text start buffer writing bytes rest n count) where
  -- the text's end
  pub pass_over : rest ≡ [] → Passes (assembled start (length buffer) text) writing (Ok count) buffer bytes
  unfolding lines lines_of
  pass_over h =
      let m : assembled start (length buffer) text ≡ made p.before = p.same ∙ (rw h) in
      record {
        answered = rw m (ap Ok (sym p.size));
        judged = λ w. p.kept ∙ (rw w);
        written =
            λ w all e.
            let same : p.before ≡ all = cc in
            p.kept ∙ (rw (w, same));
      }

  module _ {line behind : List ℕ} (c : Cuts rest line behind) {told : Result Line Fault}
      (here : told ≡ line_of (sum16 start count) line) where
    -- the lines behind the next
    abbrev later : List ℕ → Made
    later all = lines start (length buffer) (suc n) all (lines_of behind)

    -- the next line, as it is judged
    next : assembled start (length buffer) text ≡ judged (length buffer) n p.before later told
    unfolding lines
    next = p.same ∙ (rw c.same (rw (p.size, ← here)))

    refused : (bad : BadLine) → judged (length buffer) n p.before later told ≡ wrong bad.fault n → bad.line ≡ n →
        Passes (assembled start (length buffer) text) writing (Err bad) buffer bytes
    refused bad h e =
        let m = next ∙ h in
        record {
          answered = rw (m, ← e);
          judged = λ w. p.kept ∙ (rw w);
          written = λ w all k. let z : wrong bad.fault n ≡ made all = sym m ∙ k in cc;
        }

    pub pass_bad : (bad : BadLine) → told ≡ Err bad.fault → bad.line ≡ n →
        Passes (assembled start (length buffer) text) writing (Err bad) buffer bytes
    pass_bad bad h e = refused bad (rw h) e

    module _ {l : Line} (line-is : told ≡ Ok l) {room : ℕ} (long : room ≡ length buffer) where
      pub pass_stop : (bad : BadLine) → step_to room count l ≡ Err bad.fault → bad.line ≡ n →
          Passes (assembled start (length buffer) text) writing (Err bad) buffer bytes
      pass_stop bad h e =
          refused bad (rw line-is (judged_stop (length buffer) n count p.before later p.size bad.fault l (rw long at h))) e

      module _ {total : ℕ} (h : step_to room count l ≡ Ok total) where
        goes : Goes (length buffer) n count total p.before (bytes_of l) later (judged (length buffer) n p.before later (Ok l))
        goes = judged_go (length buffer) n count p.before _ p.size total l (rw long at h)

        pub pass_more : {bytes' : List ℕ} → bytes' ≡ (when writing then sets bytes count (bytes_of l) else bytes) →
            Passing text start buffer writing bytes' behind (n + 1) total
        pass_more e =
            let g = goes in
            record {
              before = p.before ++ bytes_of l;
              size = length-append p.before (bytes_of l) ∙ (rw p.size (sym g.size));
              fits = g.fits;
              few = omega (arith, p.few, c.shorter);
              same = next ∙ ap (judged (length buffer) n p.before later) line-is ∙ g.same ∙ (rw (add-one n));
              kept =
                  e ∙ (rw p.kept (shown_more writing p.before (bytes_of l) buffer count p.size (omega (arith, g.size, g.fits))));
            }
