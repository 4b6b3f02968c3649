-- The codes of a quantized block have only the bits of their format.
use Rattle.std.proofs.Common.{◌≡◌, ℕ, zero, suc, ◌+◌, ◌-◌, ◌*◌, ◌%◌, ◌^◌, ◌<◌, Bool, true, false}
use Rattle.std.proofs.Common.{ap, ◌∙◌, sym, subst, arith, List, [], ◌∷◌, length, get_or, replicate, take}
use Rattle.std.proofs.{Common.drop, lemmas.List.take_all, lemmas.Nat.mod_below, lemmas.Nat.pow_pos}
use Rattle.std.proofs.lemmas.Option.{slice_get-get_or}
use Rattle.std.specs.{Prelude.All, Prelude.IfSome, Prelude.slice_get, Bool.MatchBool}
use Rattle.rustc_apfloat.specs.{declared.Round.Round, Datum.Datum, Datum.finite, Lawful.format_with}
use Rattle.apfloat_model.specs.{formats.Format.Format, order.Classes.quanta_of}
use Rattle.formats_at_run_time.specs.BuiltIns.{constants_in}
use Rattle.apfloat_arrays.specs.declared.Counts.{Counts}
use Rattle.apfloat_arrays.specs.declared.scaled_blocks.BlockFormat.{BlockFormat, TheVariants.Mx, TheVariants.Nvfp4}
use Rattle.apfloat_arrays.specs.{declared.scaled_blocks.Quantization.Quantization, Blocks.value_at}
use Rattle.apfloat_arrays.specs.scaled_blocks.{Formats.AreNarrow, Formats.IsBlockIn, Formats.tensor_of}
use Rattle.apfloat_arrays.specs.scaled_blocks.Quantized.{AreQuantized, IsBlockOf, width_in}
use Rattle.apfloat_arrays.specs.scaled_blocks.Values.{values_in}
use Rattle.small_formats.specs.declared.blocks.{Block.Block, ElementFormat.ElementFormat}
use Rattle.small_formats.specs.declared.blocks.{ElementFormat.TheVariants.E2M1FN, ScaleRule.ScaleRule}
use Rattle.small_formats.specs.blocks.{Elements.IsQuotientBy, Elements.width, Magnitudes.are_finite}
use Rattle.small_formats.specs.blocks.MxBlocks.{IsBlockOfNan, IsBlockOfNumbers}
use Rattle.small_formats.specs.blocks.{Nvfp4.IsNvBlockOfNumbers, Places.AreElementsInPlaces}
use Rattle.convert_values.specs.BlockFormats.{element_of, scale_in}

quotients : (element : ElementFormat) (f : Format) (mode : Round) (divisor unit : ℕ) (values : List Datum)
    (codes flags : List ℕ)
    → AreElementsInPlaces (λ x code status. IsQuotientBy element f mode divisor unit x code status) values codes
    flags
    → All (λ code. code < 2 ^ width element) codes
quotients element f mode divisor unit values codes flags places k d within =
    let same = places.same_size in
    let many = places.flags_size in
    let value = slice_get-get_or values k (finite false 0) (omega (arith, within, same)) in
    let code = slice_get-get_or codes k d within in
    let flag = slice_get-get_or flags k 0 (omega (arith, within, same, many)) in
    (places.each k (get_or values k (finite false 0)) (get_or codes k d) (get_or flags k 0) value code flag).0

zeros : (n bound : ℕ) → 0 < bound → All (λ code. code < bound) (replicate n 0)
zeros zero bound some k d within = absurd (omega (arith, within))
zeros (suc n) bound some zero d within = some
zeros (suc n) bound some (suc k) d within = zeros n bound some k d (omega (arith, within))

of_block : (element : ElementFormat) (Numbers : Type 0) (values : List Datum) (codes : List ℕ) (block : Block)
    (nan : ℕ)
    (finite : Bool) → (Numbers → All (λ code. code < 2 ^ width element) codes)
    → MatchBool finite Numbers (IsBlockOfNan nan values codes block) → All (λ code. code < 2 ^ width element) codes
of_block element Numbers values codes block nan true narrow numbers = narrow numbers
of_block element Numbers values codes block nan false narrow zeroed =
    subst (λ (xs : List ℕ). All (λ code. code < 2 ^ width element) xs) (sym zeroed.codes_are)
    (zeros (length values) (2 ^ width element) (pow_pos (width element)))

in_format : (rule : ScaleRule) (format : BlockFormat) (f : Format) (mode : Round) (values : List Datum)
    (codes : List ℕ) (block : Block) → IsBlockIn rule format f mode values codes block
    → All (λ code. code < 2 ^ width (element_of format)) codes
in_format rule (Mx element) f mode values codes block h =
    of_block element (IsBlockOfNumbers rule element f mode values codes block) values codes block _ (are_finite values)
    (λ k. quotients element f mode _ _ values codes k.elements.flags k.elements.in_places) h
in_format rule (Nvfp4 tensor) f mode values codes block h =
    of_block E2M1FN (IsNvBlockOfNumbers f mode (quanta_of (tensor_of tensor)) values codes block) values codes block _
    (are_finite values) (λ k. quotients E2M1FN f mode _ _ values codes k.elements.flags k.elements.in_places) h

-- the only place
whole : (size : ℕ) (codes : List ℕ) → length codes ≡ size → value_at size 0 codes ≡ codes
whole size codes long =
    let none : 0 * size ≡ 0 = omega arith in
    let all : 0 * size + size - 0 * size ≡ length codes = omega (arith, none, long) in
    ap (λ (n : ℕ). take (0 * size + size - 0 * size) (drop n codes)) none
    ∙ ap (λ (n : ℕ). take n codes) all
    ∙ take_all (length codes) codes (omega arith)

first_block : (q : Quantization) (values codes : List ℕ) (blocks : List Block) → length codes ≡ q.length
    → length blocks ≡ 1
    → ((index : ℕ) → IfSome (slice_get blocks index)
    (λ block. IsBlockOf q values index (value_at q.length index codes) block))
    → All (λ code. code < 2 ^ width (element_of q.format)) codes
first_block q values codes [] long one each = absurd (omega (arith, one))
first_block q values codes (block ∷ rest) long one each =
    let c = constants_in q.source in
    let xs = values_in c (width_in q) values (0 * q.length) q.length in
    subst (λ (part : List ℕ). All (λ code. code < 2 ^ width (element_of q.format)) part)
    (whole q.length codes long)
    (in_format q.rule q.format (format_with c) q.round xs (value_at q.length 0 codes) block (each 0))

pub quantized_narrow : (q : Quantization) (values scales codes : List ℕ) (counts : Counts)
    → length codes ≡ q.length → AreQuantized q values 1 scales codes counts
    → All (λ code. code < 2 ^ width (element_of q.format)) codes
quantized_narrow q values scales codes counts long made =
    first_block q values codes made.blocks long made.places.size made.places.each

scale_narrow : (byte k d : ℕ) → k < 1 → get_or (byte % 2 ^ 7 ∷ []) k d < 2 ^ 7
scale_narrow byte zero d within = mod_below byte (2 ^ 7) (pow_pos 7)
scale_narrow byte (suc k) d within = absurd (omega (arith, within))

-- a scale that is read has only the bits of its format too
pub read_narrow : (format : BlockFormat) (byte scale : ℕ) (codes : List ℕ) → scale ≡ scale_in format byte
    → All (λ code. code < 2 ^ width (element_of format)) codes → AreNarrow format (scale ∷ []) codes
read_narrow (Mx element) byte scale codes is narrow = narrow
read_narrow (Nvfp4 tensor) byte scale codes is narrow =
    (subst (λ (s : ℕ). (k d : ℕ) → k < 1 → get_or (s ∷ []) k d < 2 ^ 7) (sym is) (scale_narrow byte), narrow)
