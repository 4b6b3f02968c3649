-- Blocks of NVFP4 have one answer.
use Rattle.std.proofs.Common.{◌≡◌, ◌⊎◌, ℕ, ◌+◌, ◌*◌, ◌^◌, ◌<◌, max, Bool, true, false}
use Rattle.std.proofs.Common.{eqb, leb, List, length, sym, ap, ◌∙◌, subst, inl, inr, arith, Ok, Err}
use Rattle.std.specs.Bool.{MatchBool}
use Rattle.apfloat_model.specs.{Determined.Determines, Determined.DeterminesBoth, declared.kinds.Round.Round}
use Rattle.apfloat_model.specs.formats.{Datum.Datum, Datum.finite, Format.Format}
use Rattle.apfloat_model.specs.rounding.{Answer.IsAnswer, Rounding.IsDelivered}
use Rattle.apfloat_model.proofs.{Once.Once, Once.answer_once, general.Choices.match_case, general.Choices.match_one}
use Rattle.apfloat_model.proofs.rounding.{Laws.delivered_once, Picks.pick_unique}
use Rattle.small_formats.specs.Conversions.{saturated_value}
use Rattle.small_formats.specs.declared.blocks.elements.ElementFormat.TheVariants.{E2M1FN, E4M3FN}
use Rattle.small_formats.specs.declared.blocks.nvfp4_errors.Nvfp4Error.{Nvfp4Error, TheVariants.Empty}
use Rattle.small_formats.specs.declared.blocks.nvfp4_errors.Nvfp4Error.TheVariants.{Lengths, TensorScale, BlockScale}
use Rattle.small_formats.specs.blocks.Elements.{IsQuotientBy, element_datum}
use Rattle.small_formats.specs.blocks.Laws.{IsNvDequantizedOnce, IsNvQuantizedOnce, IsTensorOnce}
use Rattle.small_formats.specs.blocks.{Magnitudes.are_finite, Magnitudes.greatest_magnitude, MxBlocks.IsBlockOfNan}
use Rattle.small_formats.specs.blocks.Nvfp4.{IsNvBlock, IsNvBlockOfNumbers, IsNvRead, IsNvScale, IsNvScaled}
use Rattle.small_formats.specs.blocks.Nvfp4.{IsNvWritten, IsRefused, IsScaleIn, IsScaleOfSome, IsScaledTensor}
use Rattle.small_formats.specs.blocks.Nvfp4.{IsTooWide, is_positive, nan_scale, scale_in, scale_quanta, single_format}
use Rattle.small_formats.specs.blocks.{Nvfp4.unless_zero, Places.AreCounted}
use Rattle.small_formats.proofs.blocks_lemmas.ElementsOnce.{code_of_element_once, quotient_by_once}
use Rattle.small_formats.proofs.blocks_lemmas.OneBlock.{nan_once, not_both, same_block}
use Rattle.small_formats.proofs.blocks_lemmas.PlacesOnce.{counted_once}

-- ---- scales

scale_in_once : (g : Format) (mode : Round) (amount parts least : ℕ) → Determines (IsScaleIn g mode amount parts least)
scale_in_once g mode amount parts least scale other x y =
    let same = pick_unique g.precision mode false amount parts x.pick y.pick x.is_pick y.is_pick in
    x.is ∙ ap (λ (p : ℕ). unless_zero (saturated_value g false p) (finite false least)) same ∙ sym y.is

tensor_once : (f : Format) (values : List Datum) → Determines (IsScaledTensor f values)
tensor_once f values answer other x y =
    x.is ∙ ap Ok (scale_in_once _ _ _ _ _ x.scale y.scale x.is_scale y.is_scale) ∙ sym y.is

pub tensor_answer_once : IsTensorOnce
tensor_answer_once f values =
    match_one Determines (are_finite values) (IsScaledTensor f values) (λ answer. answer ≡ Err _)
    (tensor_once f values) (λ answer other x y. x ∙ sym y)

-- a code below that of the NaN, by what it means
code_once : (Holds : Datum → Type 0) → Determines Holds → (code other : ℕ) → code < nan_scale → other < nan_scale
    → Holds (element_datum E4M3FN code) → Holds (element_datum E4M3FN other) → code ≡ other
code_once Holds once code other l k x y =
    code_of_element_once E4M3FN code other (omega (arith, l)) (omega (arith, k)) (once _ _ x y)

nv_scale_once : (f : Format) (mode : Round) (tensor greatest : ℕ) → Determines (IsNvScale f mode tensor greatest)
nv_scale_once f mode tensor greatest code other x y = by_test (eqb greatest 0) x.1 y.1
  where
    by_test : (test : Bool)
        → MatchBool test (code ≡ 0) (IsScaleOfSome f mode tensor greatest (element_datum E4M3FN code))
        → MatchBool test (other ≡ 0) (IsScaleOfSome f mode tensor greatest (element_datum E4M3FN other)) → code ≡ other
    by_test true p q = p ∙ sym q
    by_test false p q =
        code_once (IsScaleOfSome f mode tensor greatest) (scale_in_once _ _ _ _ _) code other x.0 y.0 p q

-- ---- into a block

numbers_once : (f : Format) (mode : Round) (tensor : ℕ) (values : List Datum)
    → DeterminesBoth (IsNvBlockOfNumbers f mode tensor values)
numbers_once f mode tensor values codes others block other x y =
    let scale = nv_scale_once f mode tensor (greatest_magnitude values) block.scale other.scale x.scale_is y.scale_is in
    let unit : ℕ = 2 ^ (scale_in.scale + single_format.scale) in
    let divisor : ℕ = max 1 (scale_quanta block.scale) * tensor in
    let elements : AreCounted (IsQuotientBy E2M1FN f mode divisor unit) values others other.counts =
    subst (λ (s : ℕ). AreCounted (IsQuotientBy E2M1FN f mode (max 1 (scale_quanta s) * tensor) unit) values others
    other.counts) (sym scale) y.elements in
    let same = counted_once (IsQuotientBy E2M1FN f mode divisor unit) (quotient_by_once E2M1FN f mode divisor unit)
    values codes others block.counts other.counts x.elements elements in
    (same.0, same_block block other scale same.1 (x.finite_is ∙ sym y.finite_is))

pub nv_block_once : (f : Format) (mode : Round) (tensor : ℕ) (values : List Datum)
    → DeterminesBoth (IsNvBlock f mode tensor values)
nv_block_once f mode tensor values =
    match_case DeterminesBoth (are_finite values) (IsNvBlockOfNumbers f mode tensor values)
    (IsBlockOfNan nan_scale values) (numbers_once f mode tensor values) (nan_once nan_scale values)

written_once : (f : Format) (mode : Round) (tensor : ℕ) (values : List Datum)
    → DeterminesBoth (IsNvWritten f mode tensor values)
written_once f mode tensor values codes others answer reply x y =
    let same = nv_block_once f mode tensor values codes others x.block y.block x.is_block y.is_block in
    (same.0, x.is ∙ ap Ok same.1 ∙ sym y.is)

refused_once : {A X : Type 0} → (error : Nvfp4Error) (before : List X)
    → DeterminesBoth (IsRefused {A = A} {X = X} error before)
refused_once error before after other answer reply x y = (x.0 ∙ sym y.0, x.1 ∙ sym y.1)

pub nv_quantized_once : IsNvQuantizedOnce
nv_quantized_once f mode tensor values before =
    match_case DeterminesBoth (eqb (length values) 0) _ _ (refused_once Empty before)
    (match_case DeterminesBoth (eqb (length before) (length values)) _ _
    (match_case DeterminesBoth (is_positive tensor) _ _ (written_once f mode _ values)
    (refused_once TensorScale before)) (refused_once Lengths before))

-- ---- out of a block

pub nv_scaled_once : (g : Format) (mode : Round) (tensor scale code : ℕ) → Once (IsNvScaled g mode tensor scale code)
nv_scaled_once g mode tensor scale code =
    match_case Once (eqb scale nan_scale) (IsAnswer _ _) (IsDelivered g mode _ _ _) (answer_once _ _)
    (λ v w s t. delivered_once g mode _ _ _ v w s t)

read_once : (g : Format) (mode : Round) (tensor scale : ℕ) (codes : List ℕ)
    → DeterminesBoth (IsNvRead g mode tensor scale codes)
read_once g mode tensor scale codes after other answer reply x y =
    let same = counted_once (IsNvScaled g mode tensor scale) (nv_scaled_once g mode tensor scale) codes after other
    x.counts y.counts x.elements y.elements in
    (same.0, x.is ∙ ap Ok same.1 ∙ sym y.is)

either_once : (g : Format) (mode : Round) (tensor scale : ℕ) (codes : List ℕ) (before : List Datum)
    → DeterminesBoth (λ after answer. IsNvRead g mode tensor scale codes after answer
    ⊎ IsTooWide codes before after answer)
either_once g mode tensor scale codes before after other answer reply (inl x) (inl y) =
    read_once g mode tensor scale codes after other answer reply x y
either_once g mode tensor scale codes before after other answer reply (inl x) (inr y) =
    absurd (not_both 4 codes x.narrow y.wide)
either_once g mode tensor scale codes before after other answer reply (inr x) (inl y) =
    absurd (not_both 4 codes y.narrow x.wide)
either_once g mode tensor scale codes before after other answer reply (inr x) (inr y) =
    (x.refused.0 ∙ sym y.refused.0, x.refused.1 ∙ sym y.refused.1)

pub nv_dequantized_once : IsNvDequantizedOnce
nv_dequantized_once g mode tensor scale codes before =
    match_case DeterminesBoth (eqb (length codes) 0) _ _ (refused_once Empty before)
    (match_case DeterminesBoth (eqb (length before) (length codes)) _ _
    (match_case DeterminesBoth (is_positive tensor) _ _
    (match_case DeterminesBoth (leb scale nan_scale) _ _ (either_once g mode _ scale codes before)
    (refused_once BlockScale before)) (refused_once TensorScale before)) (refused_once Lengths before))
