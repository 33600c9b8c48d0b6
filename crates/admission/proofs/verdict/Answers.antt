use Rattle.std.proofs.Common.{sym, ◌∙◌, arith}
use Rattle.admission.proofs.Forms.{ascending}
use Rattle.admission.proofs.Admitted.{unfit, lengths_fit, cut, bad_record, bad_vectors, records_left}
use Rattle.admission.proofs.verdict.Goals as goal

pub returns-then-not-input_fits : goal.returns-then-not-input_fits
returns-then-not-input_fits c =
    let a = c.args in
    sym (unfit a.image.now a.c a.map.now (sym c.input_fits.ensures ∙ c.if-not-input_fits.true))

pub overflow_cast-result : goal.overflow_cast-result
overflow_cast-result c =
    let a = c.args in
    let fit = sym c.input_fits.ensures ∙ c.if-not-input_fits.false in
    let bad = rw (c.in-Some.is, cut a.image.now a.c a.map.now fit _ c.as_chunks.ensures.front) at c.first_malformed.ensures in
    omega (arith, bad.within, (lengths_fit a.image.now a.c a.map.now fit).1)

pub returns-in-Some : goal.returns-in-Some
returns-in-Some c =
    let a = c.args in
    let fit = sym c.input_fits.ensures ∙ c.if-not-input_fits.false in
    let bad = rw (c.in-Some.is, cut a.image.now a.c a.map.now fit _ c.as_chunks.ensures.front) at c.first_malformed.ensures in
    sym (bad_record a.image.now a.c a.map.now fit _ bad)

pub invariant_of-map : goal.invariant_of-map
invariant_of-map c =
    let a = c.args in
    let fit = sym c.input_fits.ensures ∙ c.if-not-input_fits.false in
    let formed = rw c.in_default.is at c.first_malformed.ensures in
    record {
      few = omega (arith, c.as_chunks.ensures.front_len, (lengths_fit a.image.now a.c a.map.now fit).1);
      ascending = ascending _ formed;
    }

pub returns-then-not-vectors_hold : goal.returns-then-not-vectors_hold
returns-then-not-vectors_hold c =
    let a = c.args in
    let fit = sym c.input_fits.ensures ∙ c.if-not-input_fits.false in
    let whole = cut a.image.now a.c a.map.now fit _ c.as_chunks.ensures.front in
    let formed = rw (c.in_default.is, whole) at c.first_malformed.ensures in
    let same = (rw c.unwrap-image.ensures at c.as_array.ensures.cases).same in
    let none = sym (rw (same, whole) at c.vectors_hold.ensures) ∙ c.if-not-vectors_hold.true in
    sym (bad_vectors a.image.now a.c a.map.now fit formed none)

pub returns : goal.returns
returns c =
    let a = c.args in
    let fit = sym c.input_fits.ensures ∙ c.if-not-input_fits.false in
    let whole = cut a.image.now a.c a.map.now fit _ c.as_chunks.ensures.front in
    let formed = rw (c.in_default.is, whole) at c.first_malformed.ensures in
    let same = (rw c.unwrap-image.ensures at c.as_array.ensures.cases).same in
    let held = sym (rw (same, whole) at c.vectors_hold.ensures) ∙ c.if-not-vectors_hold.false in
    (rw (same, whole) at c.judge.ensures) ∙ sym (records_left a.image.now a.c a.map.now fit formed held)
