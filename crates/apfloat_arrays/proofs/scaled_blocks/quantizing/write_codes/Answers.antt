use Rattle.std.proofs.Common.{◌≡◌, ℕ, ◌+◌, ◌^◌, ◌<◌, List, length, refl, ap, sym, ◌∙◌, subst, arith}
use Rattle.std.specs.Prelude.{slice_set}
use Rattle.rustc_apfloat.specs.{Datum.Datum, Flags.bits_of, Types.constants_of, Types.format_of}
use Rattle.apfloat_model.specs.order.Classes.{is_finite, quanta_of}
use Rattle.formats_at_run_time.specs.ValueKinds.{value_of}
use Rattle.small_formats.specs.blocks.{Elements.IsQuotientBy, Places.AreCounted}
use Rattle.small_formats.proofs.blocks_lemmas.{Greatest.finite_at, Places.AreWritten}
use Rattle.small_formats.proofs.blocks_lemmas.Places.{all_written, length_set, none_written, one_written, room_for}
use Rattle.apfloat_arrays.specs.scaled_blocks.Values.{value_in, values_in}
use Rattle.apfloat_arrays.proofs.scaled_blocks_lemmas.Fitting.{index_within, value_within}
use Rattle.apfloat_arrays.proofs.scaled_blocks_lemmas.Listed.{values_at, values_length}
use Rattle.apfloat_arrays.proofs.scaled_blocks.quantizing.write_codes.Goals as goal

pub loop-index-init : goal.loop-index-init
loop-index-init g c = λ divisor unit some same. none_written _ _ c.args.codes.now

pub overflow_add-first : goal.overflow_add-first
overflow_add-first g c =
    let at = index_within c.args.first c.loop-index.index (length c.args.codes.now) c.args.width
    (length c.args.values.now) c.loop-index-test.true c.requires.least c.requires.within in
    record { fits = omega (arith, at) }

pub bits_at-bits-requires-clause-within : goal.bits_at-bits-requires-clause-within
bits_at-bits-requires-clause-within g c =
    value_within c.args.first c.loop-index.index (length c.args.codes.now) c.args.width
    (length c.args.values.now) c.loop-index-test.true c.requires.within

-- the value is one of the finite ones
pub quotient_of-answer-requires-clause-finite : goal.quotient_of-answer-requires-clause-finite
quotient_of-answer-requires-clause-finite g c =
    let k = constants_of g.S.Semantics in
    let index = c.loop-index.index in
    let xs : List Datum = values_in k c.args.width c.args.values.now c.args.first (length c.args.codes.now) in
    let x : Datum = value_in k c.args.width c.args.values.now (c.args.first + index) in
    ap (λ (n : ℕ). is_finite (value_of k n)) c.bits_at-bits.ensures ∙ finite_at xs index x c.requires.finite
    (values_at k c.args.width c.args.values.now c.args.first (length c.args.codes.now) index c.loop-index-test.true)

-- the flags are the same for each fraction; one is that of the scale's quanta
pub with-counts-requires : goal.with-counts-requires
with-counts-requires g c =
    room_for (c.loop-index.invariant (quanta_of c.args.scale) (2 ^ (format_of g.R.Semantics).scale)
    c.requires.scale.some refl) (omega (arith, c.loop-index-test.true))

pub loop-index-preserved : goal.loop-index-preserved
loop-index-preserved g c = λ divisor unit some same.
    let k = constants_of g.S.Semantics in
    let index = c.loop-index.index in
    let codes = c.loop-index.codes in
    let y = c.quotient_of-answer.result.value in
    let status = bits_of c.quotient_of-answer.result.status in
    let Holds : Datum → ℕ → ℕ → Type 0 =
    IsQuotientBy c.args.element (format_of g.S.Semantics) c.args.round divisor unit in
    let size : length codes ≡ length c.args.codes.now = c.loop-index.auto.codes in
    let before : index < length codes = omega (arith, c.loop-index-test.true, size) in
    subst
    (λ (n : ℕ). AreWritten Holds (index + 1) (values_in k c.args.width c.args.values.now c.args.first n)
    (slice_set codes index y) c.with-counts.result) (sym (length_set codes index y))
    (one_written (c.loop-index.invariant divisor unit some same)
    (value_in k c.args.width c.args.values.now (c.args.first + index)) y status before
    (values_at k c.args.width c.args.values.now c.args.first (length codes) index before)
    (subst (λ (n : ℕ). Holds (value_of k n) y status) c.bits_at-bits.ensures
    (c.quotient_of-answer.ensures divisor unit some same))
    c.with-counts.ensures)

pub returns : goal.returns
returns g c = λ divisor unit some same.
    let k = constants_of g.S.Semantics in
    let codes = c.loop-index.codes in
    let Holds : Datum → ℕ → ℕ → Type 0 =
    IsQuotientBy c.args.element (format_of g.S.Semantics) c.args.round divisor unit in
    let size : length codes ≡ length c.args.codes.now = c.loop-index.auto.codes in
    let last : c.loop-index.index ≡ length codes =
    omega (arith, size, c.loop-index-test.false, c.loop-index.auto.index-end) in
    let many = sym (values_length k c.args.width c.args.values.now c.args.first (length codes)) in
    subst
    (λ (n : ℕ). AreCounted Holds (values_in k c.args.width c.args.values.now c.args.first n) codes
    c.loop-index.counts) size
    (all_written (c.loop-index.invariant divisor unit some same) (last ∙ many) many)
