-- Arrays in blocks have one answer.
use Rattle.std.proofs.Common.{◌≡◌, ℕ, ◌*◌, List, length, take, refl, sym, ap, ◌∙◌, subst, arith}
use Rattle.std.proofs.lemmas.List.{take_all}
use Rattle.std.specs.Prelude.{map, Result, Ok, Err}
use Rattle.rustc_apfloat.specs.{declared.Round.Round, Classes.is_nan, Datum.Datum, Flags.bits_of, Lawful.Constants}
use Rattle.rustc_apfloat.specs.{Lawful.format_with, Lawful.layout_with, Layout.IsEncodedBy}
use Rattle.apfloat_model.proofs.bits.{EncodedOnce.encoded_once, Encodings.lawful_interchange}
use Rattle.formats_at_run_time.specs.{BuiltIns.constants_in, FlaggedKinds.flagged_constants}
use Rattle.formats_at_run_time.proofs.FormatLaws.{HasLaw, format_law}
use Rattle.apfloat_arrays.specs.{declared.scaled_blocks.quantizing.Quantization.Quantization, Bytes.number_of}
use Rattle.apfloat_arrays.specs.declared.counts.{Counts.Counts, Outcome.Outcome}
use Rattle.apfloat_arrays.specs.declared.scaled_blocks.dequantizing.Dequantization.{Dequantization}
use Rattle.apfloat_arrays.specs.declared.scaled_blocks.errors.ArrayError.{ArrayError}
use Rattle.apfloat_arrays.specs.declared.scaled_blocks.errors.ArrayError.TheVariants.{EmptyBlock, Uneven, Lengths}
use Rattle.apfloat_arrays.specs.declared.scaled_blocks.errors.ArrayError.TheVariants.{TensorScale, CodeTooWide}
use Rattle.apfloat_arrays.specs.{declared.scaled_blocks.formats.BlockFormat.BlockFormat, Outcomes.counts_of}
use Rattle.apfloat_arrays.specs.scaled_blocks.{Dequantized.width_out, Lengths.blocks_in, Quantized.width_in}
use Rattle.apfloat_arrays.specs.scaled_blocks.{Values.values_in}
use Rattle.apfloat_arrays.specs.scaled_blocks.Dequantized.{AreDequantized, IsDequantizedArray, IsScaledAt, IsScaledCode}
use Rattle.apfloat_arrays.specs.scaled_blocks.OneArray.{AreLeftIn, IsDequantizedArrayOnce, IsQuantizedArrayOnce}
use Rattle.apfloat_arrays.specs.scaled_blocks.Quantized.{AreQuantized, IsBlockOf, IsQuantizedArray, no_counts, total_of}
use Rattle.apfloat_arrays.proofs.{OneBlock.same_outcome, PlacesOnce.FixesPlaces, PlacesOnce.places_once}
use Rattle.apfloat_arrays.proofs.scaled_blocks_lemmas.Fitting.{fitting}
use Rattle.apfloat_arrays.proofs.scaled_blocks_lemmas.Formats.{block_in_once, not_both_in, scaled_in_once}
use Rattle.small_formats.specs.declared.blocks.mx.Block.{Block}

-- bytes that are all determined are equal
whole_once : (width count : ℕ) (before after other : List ℕ) → length before ≡ count * width
    → AreLeftIn before after → AreLeftIn before other
    → take (count * width) after ≡ take (count * width) other → after ≡ other
whole_once width count before after other size a b same =
    sym (take_all (count * width) after (omega (arith, a.size, size))) ∙ same
    ∙ take_all (count * width) other (omega (arith, b.size, size))

-- ---- into blocks

blocks_fixed : (q : Quantization) (values : List ℕ) → FixesPlaces (IsBlockOf q values)
blocks_fixed q values index codes other block also h k =
    let c = constants_in q.source in
    let same = block_in_once q.rule q.format (format_with c) q.round
    (values_in c (width_in q) values (index * q.length) q.length) codes other block also h k in
    (ap number_of same.0, same.1)

blocks_once : (q : Quantization) (values : List ℕ) (count : ℕ) (scales other_scales old codes other : List ℕ)
    (counts more : Counts) → length old ≡ count * q.length → AreLeftIn old codes → AreLeftIn old other
    → AreQuantized q values count scales codes counts → AreQuantized q values count other_scales other more
    → (scales ≡ other_scales) × (codes ≡ other) × (counts ≡ more)
blocks_once q values count scales other_scales old codes other counts more size a b x y =
    let same = places_once (IsBlockOf q values) q.length count codes other x.blocks y.blocks (blocks_fixed q values)
    a.are_bytes b.are_bytes (a.size ∙ sym b.size) x.places y.places in (
      x.scales_are ∙ ap (λ (blocks : List Block). map (λ (block : Block). block.scale) blocks) same.1
          ∙ sym y.scales_are,
      whole_once q.length count old codes other size a b same.0,
      x.counted ∙ ap (total_of q.length no_counts) same.1 ∙ sym y.counted,
    )

quantized_by : (q : Quantization) (values before scales other_scales old codes other : List ℕ)
    (known : Result ℕ ArrayError) (answer reply : Result Counts ArrayError)
    → ((count : ℕ) → known ≡ Ok count → length old ≡ count * q.length)
    → AreLeftIn old codes → AreLeftIn old other → IsQuantizedArray q known values before scales old codes answer
    → IsQuantizedArray q known values before other_scales old other reply
    → (scales ≡ other_scales) × (codes ≡ other) × (answer ≡ reply)
quantized_by q values before scales other_scales old codes other (Ok count) (Ok counts) (Ok more) fits a b x y =
    let same = blocks_once q values count scales other_scales old codes other counts more (fits count refl) a b x y in
    (same.0, same.1, ap (λ (k : Counts). Ok k) same.2)
quantized_by q values before scales other_scales old codes other (Ok count) (Ok counts) (Err e) fits a b x y = absurd y
quantized_by q values before scales other_scales old codes other (Ok count) (Err e) reply fits a b x y = absurd x
quantized_by q values before scales other_scales old codes other (Err e) (Ok counts) reply fits a b x y = absurd x
quantized_by q values before scales other_scales old codes other (Err e) (Err f) (Ok more) fits a b x y = absurd y
quantized_by q values before scales other_scales old codes other (Err e) (Err f) (Err g) fits a b x y =
    (x.1 ∙ sym y.1, x.2 ∙ sym y.2, ap (λ (error : ArrayError). Err error) (x.0 ∙ sym y.0))

pub quantized_once : IsQuantizedArrayOnce
quantized_once q values before scales other_scales old codes other answer reply a b x y =
    quantized_by q values before scales other_scales old codes other
    (blocks_in q.format q.length (width_in q) (length values) (length before) (length old)) answer reply
    (λ count said.
    (fitting q.format q.length (width_in q) (length values) (length before) (length old) count said).codes_are) a b x y

-- ---- out of blocks

scaled_code_once : (format : BlockFormat) (d : Constants) (mode : Round) (scale code : ℕ) (bytes other : List ℕ)
    (outcome also : Outcome) → HasLaw d → IsScaledCode format d mode scale code bytes outcome
    → IsScaledCode format d mode scale code other also
    → (number_of bytes ≡ number_of other) × (outcome ≡ also)
scaled_code_once format d mode scale code bytes other outcome also has x y =
    let same = scaled_in_once format (format_with d) mode scale code x.value y.value (bits_of outcome.status)
    (bits_of also.status) x.is_scaled y.is_scaled in
    let encodes = λ (v : Datum). IsEncodedBy (format_with d) (layout_with d) (number_of bytes) v in (
      encoded_once (format_with d) (layout_with d) y.value (number_of bytes) (number_of other)
          (lawful_interchange d has.law has.wide) (subst encodes same.0 x.is_encoded) y.is_encoded,
      same_outcome outcome also same.1 (x.nan_is ∙ ap is_nan same.0 ∙ sym y.nan_is),
    )

values_once : (q : Dequantization) (d : Constants) (width : ℕ) (scales codes before after other : List ℕ)
    (counts more : Counts) → HasLaw d → length before ≡ length codes * width → AreLeftIn before after
    → AreLeftIn before other → AreDequantized q d width scales codes after counts
    → AreDequantized q d width scales codes other more → (after ≡ other) × (counts ≡ more)
values_once q d width scales codes before after other counts more has size a b x y =
    let fixes : FixesPlaces (IsScaledAt q d scales codes) = λ index bytes written outcome also h k.
    scaled_code_once q.format d q.round _ _ bytes written outcome also has h k in
    let same = places_once (IsScaledAt q d scales codes) width (length codes) after other x.outcomes y.outcomes fixes
    a.are_bytes b.are_bytes (a.size ∙ sym b.size) x.places y.places in (
      whole_once width (length codes) before after other size a b same.0,
      x.counted ∙ ap counts_of same.1 ∙ sym y.counted,
    )

dequantized_by : (q : Dequantization) (scales codes before after other : List ℕ) (known : Result ℕ ArrayError)
    (answer reply : Result Counts ArrayError)
    → ((count : ℕ) → known ≡ Ok count → length before ≡ length codes * width_out q)
    → AreLeftIn before after → AreLeftIn before other
    → IsDequantizedArray q known scales codes before after answer
    → IsDequantizedArray q known scales codes before other reply → (after ≡ other) × (answer ≡ reply)
dequantized_by q scales codes before after other (Ok count) (Ok counts) (Ok more) fits a b x y =
    let same = values_once q (flagged_constants q.target) (width_out q) scales codes before after other counts more
    (format_law q.target) (fits count refl) a b x.1 y.1 in
    (same.0, ap (λ (k : Counts). Ok k) same.1)
dequantized_by q scales codes before after other (Ok count) (Ok counts) (Err CodeTooWide) fits a b x y =
    absurd (not_both_in q.format scales codes x.0 y.0)
dequantized_by q scales codes before after other (Ok count) (Err CodeTooWide) (Ok more) fits a b x y =
    absurd (not_both_in q.format scales codes y.0 x.0)
dequantized_by q scales codes before after other (Ok count) (Err CodeTooWide) (Err CodeTooWide) fits a b x y =
    (x.1 ∙ sym y.1, refl)
dequantized_by q scales codes before after other (Ok count) answer (Err EmptyBlock) fits a b x y = absurd y
dequantized_by q scales codes before after other (Ok count) answer (Err Uneven) fits a b x y = absurd y
dequantized_by q scales codes before after other (Ok count) answer (Err Lengths) fits a b x y = absurd y
dequantized_by q scales codes before after other (Ok count) answer (Err TensorScale) fits a b x y = absurd y
dequantized_by q scales codes before after other (Ok count) (Err EmptyBlock) reply fits a b x y = absurd x
dequantized_by q scales codes before after other (Ok count) (Err Uneven) reply fits a b x y = absurd x
dequantized_by q scales codes before after other (Ok count) (Err Lengths) reply fits a b x y = absurd x
dequantized_by q scales codes before after other (Ok count) (Err TensorScale) reply fits a b x y = absurd x
dequantized_by q scales codes before after other (Err e) (Ok counts) reply fits a b x y = absurd x
dequantized_by q scales codes before after other (Err e) (Err f) (Ok more) fits a b x y = absurd y
dequantized_by q scales codes before after other (Err e) (Err f) (Err g) fits a b x y =
    (x.1 ∙ sym y.1, ap (λ (error : ArrayError). Err error) (x.0 ∙ sym y.0))

pub dequantized_once : IsDequantizedArrayOnce
dequantized_once q scales codes before after other answer reply a b x y =
    dequantized_by q scales codes before after other
    (blocks_in q.format q.length (width_out q) (length before) (length scales) (length codes)) answer reply
    (λ count said.
    (fitting q.format q.length (width_out q) (length before) (length scales) (length codes) count said).values_are)
    a b x y
