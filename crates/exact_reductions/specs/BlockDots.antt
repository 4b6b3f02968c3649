-- The exact dot product of two vectors in blocks of elements with common scales, rounded once.
use Rattle.std.specs.Prelude.{◌≡◌, ◌≢◌, ℕ, ◌+◌, ◌-◌, ◌*◌, ◌/◌, ◌^◌, ◌<◌, eqb, Bool, true, false, not, ◌&&◌}
use Rattle.std.specs.Prelude.{if◌then◌else◌, List, length, map, get_or, All, Option, Some, None, Result, Ok, Err}
use Rattle.std.specs.List.{range_with_len}
use Rattle.apfloat_model.specs.{Determined.Determines, declared.kinds.Round.Round, declared.status.StatusAnd.StatusAnd}
use Rattle.apfloat_model.specs.{arithmetic.Conversions.converted_nan, bits.Layout.datum_of}
use Rattle.apfloat_model.specs.formats.{Datum.Datum, Datum.finite, Datum.infinite, Datum.nan, Format.Format}
use Rattle.apfloat_model.specs.formats.{Formats.double_constants, Formats.single_constants, Lawful.format_with}
use Rattle.apfloat_model.specs.formats.{Lawful.layout_with, Nan.invalid_if, Nan.qnan}
use Rattle.apfloat_model.specs.order.{Classes.quanta_of, Positive.IsPositive}
use Rattle.apfloat_model.specs.rounding.{Flags.Gives, Outcome.Outcome, Outcome.settled, Outcome.invalid, Outcome.Yields}
use Rattle.apfloat_arithmetic.specs.other_formats.FormatOf.{infinity_to, total_to}
use Rattle.small_formats.specs.Scales.{nan_code, scale_format}
use Rattle.small_formats.specs.declared.blocks.elements.ElementFormat.TheVariants.{E2M1FN}
use Rattle.small_formats.specs.blocks.Elements.{element_datum, format_of_element, width}
use Rattle.small_formats.specs.blocks.Nvfp4.{nan_scale, scale_in, scale_quanta, single_format}
use Rattle.exact_reductions.specs.declared.block_dots.BlockScaling.{BlockScaling, TheVariants.Mx, TheVariants.Nvfp4}
use Rattle.exact_reductions.specs.declared.block_dots.BlockVector.{BlockVector}
use Rattle.exact_reductions.specs.declared.block_dots.DotError.{DotError, TheVariants.NotBlocks}
use Rattle.exact_reductions.specs.declared.block_dots.DotError.TheVariants.{LengthsDiffer}
use Rattle.exact_reductions.specs.Reductions.{Tally, product_terms, tally}

-- ---- totals in another format

abbrev pub infinite_total_to : Format → Bool → Bool → Outcome → Outcome
infinite_total_to g true true number = invalid g
infinite_total_to g true false number = infinity_to g false
infinite_total_to g false true number = infinity_to g true
infinite_total_to g false false number = number

abbrev pub total_after_to : Format → Format → Option Datum → Tally → Outcome
total_after_to f g (Some x) t = settled (qnan g 0) (invalid_if t.invalid)
total_after_to f g None t =
    infinite_total_to g t.positive_infinity t.negative_infinity
    (total_to g t.negative (t.negative && not t.positive) t.exact (f.scale + f.scale))

-- The total of terms in f, in the format g. A NaN is the quiet one without a payload; all else is as in `total`.
abbrev pub IsTotalTo : Format → Format → Round → Tally → Datum → ℕ → Type 0
IsTotalTo f g mode t value status = Yields g mode (total_after_to f g t.first_nan t) value status

-- ---- vectors

-- the scale of a tensor is a single, by its bits
abbrev pub tensor_of : ℕ → Datum
tensor_of bits = datum_of single_format (layout_with single_constants) bits

-- the tensor has a positive scale, and no code has more bits than its format
abbrev pub AreCodes : BlockScaling → List ℕ → List ℕ → Type 0
AreCodes (Mx element) scales codes = All (λ code. code < 2 ^ width element) codes
AreCodes (Nvfp4 tensor) scales codes =
    IsPositive single_format (tensor_of tensor) × All (λ scale. scale < 2 ^ 7) scales × All (λ code. code < 2 ^ 4) codes

-- blocks have elements, each of them a code, and each block a scale
pub record IsVector (x : BlockVector) : Type 0 where
  pub some : 0 < x.length
  pub whole : length x.codes.now ≡ length x.scales.now * x.length
  pub codes : AreCodes x.scaling x.scales.now x.codes.now

-- ---- values, as data of double, which has each element times its scales

abbrev pub double_format : Format
double_format = format_with double_constants

-- x quanta of the format f times factor / 2 ^ places; of a NaN no flag is raised
abbrev pub scaled_datum : Format → ℕ → ℕ → Datum → Datum
scaled_datum f factor places (finite b n) = finite b (n * factor * 2 ^ (double_format.scale - (f.scale + places)))
scaled_datum f factor places (infinite b) = infinite b
scaled_datum f factor places (nan b s) = converted_nan f double_format b s

-- the exact product of an element and its scales; a NaN if the scale is one
abbrev pub scaled_value : BlockScaling → ℕ → ℕ → Datum
scaled_value (Mx element) scale code =
    if eqb scale nan_code then qnan double_format 0
    else scaled_datum (format_of_element element) (2 ^ scale) scale_format.scale (element_datum element code)
scaled_value (Nvfp4 tensor) scale code =
    if eqb scale nan_scale then qnan double_format 0
    else scaled_datum (format_of_element E2M1FN) (scale_quanta scale * quanta_of (tensor_of tensor))
    (scale_in.scale + single_format.scale) (element_datum E2M1FN code)

abbrev pub value_at : BlockVector → ℕ → Datum
value_at x index = scaled_value x.scaling (get_or x.scales.now (index / x.length) 0) (get_or x.codes.now index 0)

abbrev pub values : BlockVector → List Datum
values x = map (value_at x) (range_with_len 0 (length x.codes.now))

-- ---- the dot product

-- the exact sum of the products of the values at the same places, rounded once to the format g
abbrev pub IsBlockDot : Format → Round → BlockVector → BlockVector → Datum → ℕ → Type 0
IsBlockDot g mode x y value status =
    IsTotalTo double_format g mode (tally (product_terms double_format (values x) (values y))) value status

abbrev pub IsDotCall : Format → Round → BlockVector → BlockVector → Result (StatusAnd Datum) DotError → Type 0
IsDotCall g mode x y (Ok answer) =
    (IsVector x × IsVector y) × (length x.codes.now ≡ length y.codes.now) × Gives (IsBlockDot g mode x y) answer
IsDotCall g mode x y (Err LengthsDiffer) = (IsVector x × IsVector y) × (length x.codes.now ≢ length y.codes.now)
IsDotCall g mode x y (Err NotBlocks) = IsVector x × IsVector y → ⊥

-- it has one answer
abbrev pub IsDotCallOnce : Type 0
IsDotCallOnce = (g : Format) (mode : Round) (x y : BlockVector) → Determines (IsDotCall g mode x y)
