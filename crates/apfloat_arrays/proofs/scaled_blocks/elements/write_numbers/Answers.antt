use Rattle.std.proofs.Common.{◌≡◌, ℕ, ◌+◌, ◌-◌, ◌*◌, ◌/◌, ◌^◌, ◌<◌, ◌≤◌, true}
use Rattle.std.proofs.Common.{List, length, ap, sym, ◌∙◌, subst, arith, pos, ◌-ℤ◌}
use Rattle.std.proofs.lemmas.Int.{ints}
use Rattle.std.specs.Prelude.{slice_set}
use Rattle.rustc_apfloat.specs.{declared.Round.Round, Datum.Datum, Datum.finite, Flags.bits_of}
use Rattle.rustc_apfloat.specs.Types.{constants_of, format_of}
use Rattle.apfloat_model.specs.order.Classes.{is_finite}
use Rattle.formats_at_run_time.specs.ValueKinds.{value_of}
use Rattle.small_formats.specs.Storage.{format_with as stored_format}
use Rattle.small_formats.specs.Types.{constants_of as storage_constants_of}
use Rattle.small_formats.specs.blocks.{Elements.IsQuotientBy, Places.AreCounted}
use Rattle.small_formats.proofs.blocks_lemmas.Greatest.{finite_at}
use Rattle.small_formats.proofs.blocks_lemmas.Places.{AreWritten, all_written, length_set, none_written}
use Rattle.small_formats.proofs.blocks_lemmas.Places.{one_written, room_for}
use Rattle.apfloat_arrays.specs.{Blocks.value_at, Bytes.number_of}
use Rattle.apfloat_arrays.specs.scaled_blocks.Values.{value_in, values_in}
use Rattle.apfloat_arrays.specs.stored.NumberCodes.{IsCodedNumber, is_minus, quanta_in}
use Rattle.apfloat_arrays.proofs.{FarNumbers.scale_is, scaled_blocks_lemmas.Elements.coded_quotient}
use Rattle.apfloat_arrays.proofs.scaled_blocks_lemmas.{Fitting.index_within, Fitting.value_within}
use Rattle.apfloat_arrays.proofs.scaled_blocks_lemmas.{Listed.values_at, Listed.values_length}
use Rattle.apfloat_arrays.proofs.{scaled_blocks_lemmas.Numbers.number_if, stored_lemmas.Numbers.number_read}
use Rattle.apfloat_arrays.proofs.scaled_blocks.elements.write_numbers.Goals as goal

pub value_at-requires : goal.value_at-requires
value_at-requires g c =
    let call = c.args.call in
    let width : c.BITS-width.result / 8 ≡ c.args.call.width = omega (arith, c.requires.width, c.BITS-width.ensures) in
    subst (λ (w : ℕ). (call.first + c.loop-index.index) * w + w ≤ length call.values.now) (sym width)
    (value_within call.first c.loop-index.index (length c.args.codes.now) call.width (length call.values.now)
    c.loop-index-test.true c.requires.given.within)

pub overflow_add-call : goal.overflow_add-call
overflow_add-call g c =
    let call = c.args.call in
    let at = index_within call.first c.loop-index.index (length c.args.codes.now) call.width (length call.values.now)
    c.loop-index-test.true c.requires.given.least c.requires.given.within in
    record { fits = omega (arith, at) }

pub loop-index-init : goal.loop-index-init
loop-index-init g c = none_written _ _ _

pub code_number-answer-requires-clause-most : goal.code_number-answer-requires-clause-most
code_number-answer-requires-clause-most g c = c.requires.coded.few

pub with-counts-requires : goal.with-counts-requires
with-counts-requires g c = room_for c.loop-index.invariant (omega (arith, c.loop-index-test.true))

pub loop-index-preserved : goal.loop-index-preserved
loop-index-preserved g c =
    let k = constants_of g.S.Semantics in
    let s = storage_constants_of g.F.StorageFormat in
    let law = g.F.StorageFormat.lawful in
    let call = c.args.call in
    let index = c.loop-index.index in
    let codes = c.loop-index.codes in
    let source = c.requires.source in
    let bits = c.bits_in-bits.result in
    let y = c.code_number-answer.result.value in
    let status = bits_of c.code_number-answer.result.status in
    let xs : List Datum = values_in k call.width call.values.now call.first (length c.args.codes.now) in
    let x : Datum = value_in k call.width call.values.now (call.first + index) in
    let Holds : Datum → ℕ → ℕ → Type 0 =
    IsQuotientBy call.element (format_of g.S.Semantics) call.round (2 ^ call.scale) (2 ^ 127) in
    let size : length codes ≡ length c.args.codes.now = c.loop-index.auto.codes in
    let before : index < length codes = omega (arith, c.loop-index-test.true, size) in
    let width : c.BITS-width.result / 8 ≡ call.width = omega (arith, c.requires.width, c.BITS-width.ensures) in
    let bits_are : bits ≡ number_of (value_at call.width (call.first + index) call.values.now) =
    c.bits_in-bits.ensures.is ∙ ap number_of c.value_at.ensures.is
    ∙ ap (λ (w : ℕ). number_of (value_at w (call.first + index) call.values.now)) width in
    let number : is_finite (value_of k bits) ≡ true =
    ap (λ (n : ℕ). is_finite (value_of k n)) bits_are ∙ finite_at xs index x c.requires.given.finite
    (values_at k call.width call.values.now call.first (length c.args.codes.now) index c.loop-index-test.true) in
    let coded : IsCodedNumber k s call.round c.args.first c.args.most bits y status =
    subst (λ (mode : Round). IsCodedNumber k s mode c.args.first c.args.most bits y status)
    c.word_plan-plan.ensures.round
    c.code_number-answer.ensures in
    let from_scale = scale_is k g.S.Semantics.lawful.parameters in
    let more = source.more in
    let to_scale : pos (stored_format s).scale ≡ pos (s.precision - 1) -ℤ s.min_exp =
    omega (arith, ints, law.precision_low, law.min_exp_high) in
    let scales : (format_of g.S.Semantics).scale + call.scale
    ≡ (stored_format s).scale + 127 + (k.precision - s.precision) + c.args.first =
    omega (arith, ints, from_scale, to_scale, c.requires.first, more, law.precision_low) in
    let read : value_of k bits ≡ finite (is_minus k bits) (quanta_in k bits) =
    number_read k bits source.nonfinite source.implied (number_if k bits source.nonfinite source.implied number) in
    let quotient : Holds (value_of k bits) y status =
    coded_quotient call.element k s call.round c.args.first c.args.most call.scale bits y status law c.requires.coded
    coded scales read in
    subst
    (λ (n : ℕ). AreWritten Holds (index + 1) (values_in k call.width call.values.now call.first n)
    (slice_set codes index y) c.with-counts.result) (sym (length_set codes index y))
    (one_written c.loop-index.invariant x y status before
    (values_at k call.width call.values.now call.first (length codes) index before)
    (subst (λ (n : ℕ). Holds (value_of k n) y status) bits_are quotient) c.with-counts.ensures)

pub returns : goal.returns
returns g c =
    let k = constants_of g.S.Semantics in
    let call = c.args.call in
    let codes = c.loop-index.codes in
    let Holds : Datum → ℕ → ℕ → Type 0 =
    IsQuotientBy call.element (format_of g.S.Semantics) call.round (2 ^ call.scale) (2 ^ 127) in
    let size : length codes ≡ length c.args.codes.now = c.loop-index.auto.codes in
    let last : c.loop-index.index ≡ length codes =
    omega (arith, size, c.loop-index-test.false, c.loop-index.auto.index-end) in
    let many = sym (values_length k call.width call.values.now call.first (length codes)) in
    subst (λ (n : ℕ). AreCounted Holds (values_in k call.width call.values.now call.first n) codes c.loop-index.counts)
    size (all_written c.loop-index.invariant (last ∙ many) many)
