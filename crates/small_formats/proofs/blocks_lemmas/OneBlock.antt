-- Blocks have one answer.
use Rattle.std.proofs.Common.{◌≡◌, ℕ, ◌^◌, ◌<◌, ◌≤◌, Bool, eqb, List, length, sym, refl, ap, ◌∙◌, subst, arith, Result}
use Rattle.std.proofs.{Common.Ok, Common.Err, Common.false, Common.⊎_elim, lemmas.Bool.cases_lt, lemmas.Bool.false≢true}
use Rattle.std.specs.Prelude.{All, Any, ℤ, pos, ◌-ℤ◌}
use Rattle.apfloat_model.specs.{Determined.Determines, Determined.DeterminesBoth, declared.kinds.Round.Round}
use Rattle.apfloat_model.specs.{formats.Datum.Datum, formats.Format.Format, rounding.Answer.IsAnswer}
use Rattle.apfloat_model.proofs.{Once.Once, Once.answer_once, arithmetic.Inverses.logarithm_once}
use Rattle.apfloat_model.proofs.general.Choices.{match_case, match_one}
use Rattle.apfloat_arithmetic.specs.other_formats.FormatOf.{IsProductTo}
use Rattle.apfloat_arithmetic.proofs.other_formats_lemmas.Once.{has_one_product}
use Rattle.small_formats.specs.Scales.{nan_code, scale_format, scale_of}
use Rattle.small_formats.specs.declared.blocks.{counts.Counts.Counts, elements.ElementFormat.ElementFormat}
use Rattle.small_formats.specs.declared.blocks.{mx.Block.Block, mx_scales.ScaleRule.ScaleRule}
use Rattle.small_formats.specs.declared.blocks.errors.BlockError.{BlockError}
use Rattle.small_formats.specs.declared.blocks.errors.BlockError.TheVariants.{Empty, Lengths, CodeTooWide}
use Rattle.small_formats.specs.declared.blocks.mx_scales.ScaleRule.TheVariants.{Floor, Ceil, Even}
use Rattle.small_formats.specs.blocks.{Magnitudes.are_finite, Magnitudes.greatest_magnitude, MxBlocks.IsBlockBy}
use Rattle.small_formats.specs.blocks.{MxScales.clips, MxScales.outgrows, Places.AreCounted}
use Rattle.small_formats.specs.blocks.Elements.{IsQuotientBy, element_datum, format_of_element, max_exp}
use Rattle.small_formats.specs.blocks.Laws.{IsDequantizedOnce, IsQuantizedOnce}
use Rattle.small_formats.specs.blocks.MxBlocks.{IsBlockOfNan, IsBlockOfNumbers, IsDequantized, IsQuantizedBy, IsScaled}
use Rattle.small_formats.specs.blocks.MxScales.{IsBlockScale, IsLeastScale, IsScaleBy, IsScaleOfNumber, clamped_code}
use Rattle.small_formats.proofs.blocks_lemmas.{ElementsOnce.quotient_by_once, PlacesOnce.counted_once}

-- ---- into a block

scale_of_number_once : (element : ElementFormat) (f : Format) (greatest : ℕ)
    → Determines (IsScaleOfNumber element f greatest)
scale_of_number_once element f greatest code other x y =
    let same = logarithm_once f greatest x.exponent y.exponent x.is_logarithm y.is_logarithm in
    x.code_is ∙ ap (λ (e : ℤ). clamped_code (e -ℤ pos (max_exp element))) same ∙ sym y.code_is

block_scale_once : (element : ElementFormat) (f : Format) (greatest : ℕ) → Determines (IsBlockScale element f greatest)
block_scale_once element f greatest =
    match_one Determines (eqb greatest 0) (λ code. code ≡ 0) (IsScaleOfNumber element f greatest)
    (λ code other x y. x ∙ sym y) (scale_of_number_once element f greatest)

-- of two codes, the lower one is not past the bound or is the largest one
not_lower : (is_past : ℕ → Bool) (code other : ℕ) → code < other
    → IsLeastScale is_past code → IsLeastScale is_past other → ⊥
not_lower is_past code other l x y =
    ⊎_elim
    (λ (e : code ≡ 254). let within = y.within in omega (arith, e, l, within))
    (λ (e : is_past code ≡ false). false≢true (sym e ∙ y.least code l))
    x.enough

least_once : (is_past : ℕ → Bool) → Determines (IsLeastScale is_past)
least_once is_past code other x y =
    ⊎_elim
    (λ (l : code < other). absurd (not_lower is_past code other l x y))
    (λ (l : other ≤ code).
    ⊎_elim
    (λ (k : other < code). absurd (not_lower is_past other code k y x))
    (λ (k : code ≤ other). omega (arith, k, l))
    (cases_lt other code))
    (cases_lt code other)

scale_once : (rule : ScaleRule) (element : ElementFormat) (f : Format) (greatest : ℕ)
    → Determines (IsScaleBy rule element f greatest)
scale_once Floor element f greatest = block_scale_once element f greatest
scale_once Ceil element f greatest = least_once (clips element f greatest)
scale_once Even element f greatest = least_once (outgrows element f greatest)

pub same_block : (block other : Block) → block.scale ≡ other.scale → block.counts ≡ other.counts
    → block.is_finite ≡ other.is_finite → block ≡ other
same_block block other e f g =
    ap (λ (s : ℕ). record { scale = s; counts = block.counts; is_finite = block.is_finite }) e
    ∙ ap (λ (k : Counts). record { scale = other.scale; counts = k; is_finite = block.is_finite }) f
    ∙ ap (λ (b : Bool). record { scale = other.scale; counts = other.counts; is_finite = b }) g

numbers_once : (rule : ScaleRule) (element : ElementFormat) (f : Format) (mode : Round) (values : List Datum)
    → DeterminesBoth (IsBlockOfNumbers rule element f mode values)
numbers_once rule element f mode values codes others block other x y =
    let scale = scale_once rule element f (greatest_magnitude values) block.scale other.scale x.scale_is y.scale_is in
    let elements : AreCounted (IsQuotientBy element f mode (2 ^ block.scale) (2 ^ scale_format.scale)) values others
    other.counts =
    subst (λ (s : ℕ). AreCounted (IsQuotientBy element f mode (2 ^ s) (2 ^ scale_format.scale)) values others
    other.counts) (sym scale) y.elements in
    let same = counted_once (IsQuotientBy element f mode (2 ^ block.scale) (2 ^ scale_format.scale))
    (quotient_by_once element f mode (2 ^ block.scale) (2 ^ scale_format.scale)) values codes others block.counts
    other.counts x.elements elements in
    (same.0, same_block block other scale same.1 (x.finite_is ∙ sym y.finite_is))

pub nan_once : (nan : ℕ) (values : List Datum) → DeterminesBoth (IsBlockOfNan nan values)
nan_once nan values codes others block other x y = (
  x.codes_are ∙ sym y.codes_are,
  same_block block other (x.scale_is ∙ sym y.scale_is) (x.counted ∙ sym y.counted)
      (x.finite_is ∙ sym y.finite_is),
)

pub block_once : (rule : ScaleRule) (element : ElementFormat) (f : Format) (mode : Round) (values : List Datum)
    → DeterminesBoth (IsBlockBy rule element f mode values)
block_once rule element f mode values =
    match_case DeterminesBoth (are_finite values) (IsBlockOfNumbers rule element f mode values)
    (IsBlockOfNan nan_code values) (numbers_once rule element f mode values) (nan_once nan_code values)

none_some : (n : ℕ) → n ≡ 0 → 0 < n → ⊥
none_some n e l = omega (arith, e, l)

pub quantized_once : IsQuantizedOnce
quantized_once rule element f mode values before after other = once
  where
    once : (answer reply : Result Block BlockError) → IsQuantizedBy rule element f mode values before after answer
        → IsQuantizedBy rule element f mode values before other reply → (after ≡ other) × (answer ≡ reply)
    once (Ok block) (Ok reply) x y =
        let same = block_once rule element f mode values after other block reply x.2 y.2 in (same.0, ap Ok same.1)
    once (Ok block) (Err Empty) x y = absurd (none_some (length values) y.0 x.0)
    once (Ok block) (Err Lengths) x y = absurd (y.1 x.1)
    once (Ok block) (Err CodeTooWide) x y = absurd y
    once (Err Empty) (Ok reply) x y = absurd (none_some (length values) x.0 y.0)
    once (Err Empty) (Err Empty) x y = (x.1 ∙ sym y.1, refl)
    once (Err Empty) (Err Lengths) x y = absurd (none_some (length values) x.0 y.0)
    once (Err Empty) (Err CodeTooWide) x y = absurd y
    once (Err Lengths) (Ok reply) x y = absurd (x.1 y.1)
    once (Err Lengths) (Err Empty) x y = absurd (none_some (length values) y.0 x.0)
    once (Err Lengths) (Err Lengths) x y = (x.2 ∙ sym y.2, refl)
    once (Err Lengths) (Err CodeTooWide) x y = absurd y
    once (Err CodeTooWide) reply x y = absurd x

-- ---- out of a block

pub scaled_once : (element : ElementFormat) (g : Format) (mode : Round) (scale code : ℕ)
    → Once (IsScaled element g mode scale code)
scaled_once element g mode scale code =
    match_case Once (eqb scale nan_code) (IsAnswer _ _)
    (IsProductTo (format_of_element element) scale_format g mode (element_datum element code) (scale_of scale))
    (answer_once _ _)
    (λ v w r s. has_one_product (format_of_element element) scale_format g mode (element_datum element code)
    (scale_of scale) v w r s)

-- no code has both few bits and more
pub not_both : (bits : ℕ) (codes : List ℕ) → All (λ code. code < 2 ^ bits) codes
    → Any (λ code. 2 ^ bits ≤ code) codes → ⊥
not_both bits codes few (place, code, within, is, wide) =
    let low : code < 2 ^ bits = subst (λ (n : ℕ). n < 2 ^ bits) is (few place code within) in
    omega (arith, low, wide)

pub dequantized_once : IsDequantizedOnce
dequantized_once element g mode scale codes before after other = once
  where
    once : (answer reply : Result Counts BlockError) → IsDequantized element g mode scale codes before after answer
        → IsDequantized element g mode scale codes before other reply → (after ≡ other) × (answer ≡ reply)
    once (Ok counts) (Ok reply) x y =
        let same = counted_once (IsScaled element g mode scale) (scaled_once element g mode scale) codes after other
        counts reply x.3 y.3 in
        (same.0, ap Ok same.1)
    once (Ok counts) (Err Empty) x y = absurd (none_some (length codes) y.0 x.0)
    once (Ok counts) (Err Lengths) x y = absurd (y.1 x.1)
    once (Ok counts) (Err CodeTooWide) x y = absurd (not_both _ codes x.2 y.2)
    once (Err Empty) (Ok reply) x y = absurd (none_some (length codes) x.0 y.0)
    once (Err Empty) (Err Empty) x y = (x.1 ∙ sym y.1, refl)
    once (Err Empty) (Err Lengths) x y = absurd (none_some (length codes) x.0 y.0)
    once (Err Empty) (Err CodeTooWide) x y = absurd (none_some (length codes) x.0 y.0)
    once (Err Lengths) (Ok reply) x y = absurd (x.1 y.1)
    once (Err Lengths) (Err Empty) x y = absurd (none_some (length codes) y.0 x.0)
    once (Err Lengths) (Err Lengths) x y = (x.2 ∙ sym y.2, refl)
    once (Err Lengths) (Err CodeTooWide) x y = absurd (x.1 y.1)
    once (Err CodeTooWide) (Ok reply) x y = absurd (not_both _ codes y.2 x.2)
    once (Err CodeTooWide) (Err Empty) x y = absurd (none_some (length codes) y.0 x.0)
    once (Err CodeTooWide) (Err Lengths) x y = absurd (y.1 x.1)
    once (Err CodeTooWide) (Err CodeTooWide) x y = (x.3 ∙ sym y.3, refl)
