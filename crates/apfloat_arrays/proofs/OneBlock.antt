-- The conversion of a block of values is unique.
use Rattle.std.proofs.Common.{◌≡◌, ℕ, ◌*◌, ◌<◌, ◌≤◌, Bool, List, length, take, sym, ◌∙◌, ap}
use Rattle.std.proofs.{Common.subst, Common.arith, lemmas.List.take_all}
use Rattle.rustc_apfloat.specs.{declared.Round.Round, Flags.bits_of, Datum.Datum, Datum.finite, Datum.infinite}
use Rattle.rustc_apfloat.specs.{Datum.nan, Conversions.IsConverted, Classes.is_nan, Format.Format}
use Rattle.rustc_apfloat.specs.Lawful.{Constants, IsLawful, format_with, layout_with}
use Rattle.rustc_apfloat.specs.Layout.{datum_of, IsEncodedBy}
use Rattle.apfloat_model.proofs.Once.{OnceWith, conversion_once}
use Rattle.apfloat_model.proofs.bits.{EncodedOnce.encoded_once, Encodings.lawful_interchange}
use Rattle.apfloat_arrays.specs.declared.counts.{Counts.Counts, Outcome.Outcome}
use Rattle.apfloat_arrays.specs.{Blocks.AreInPlaces, Blocks.IsBlock, Blocks.value_at, Bytes.AreBytes, Bytes.number_of}
use Rattle.apfloat_arrays.specs.{OneBlock.IsBlockOnce, Outcomes.counts_of, Values.IsConvertedBy}
use Rattle.apfloat_arrays.proofs.PlacesOnce.{FixesPlaces, places_once}
use Rattle.small_formats.specs.declared.saturation.saturation.Overflow.{Overflow}
use Rattle.small_formats.specs.declared.saturation.saturation.Overflow.TheVariants.{Rounded, Saturated, Finite}
use Rattle.small_formats.specs.declared.saturation.saturation.FiniteNan.{FiniteNan}
use Rattle.small_formats.specs.declared.saturation.saturation.FiniteNan.TheVariants.{Kept, Largest}
use Rattle.small_formats.specs.saturation.Saturation.{IsConversionBy, IsFiniteConversion, IsSaturatedConversion}
use Rattle.small_formats.specs.saturation.Saturation.{saturated}

-- a conversion that saturates determines the value, the status and whether information is lost
saturated_once : (f g : Format) (mode : Round) (x : Datum) → OnceWith (IsSaturatedConversion f g mode x)
saturated_once f g mode x v w r s a b h k =
    let same = conversion_once f g mode x h.rounded k.rounded r s a b h.is_conversion k.is_conversion in
    (h.value_is ∙ ap (λ (d : Datum). saturated g x d) same.0 ∙ sym k.value_is, same.1, same.2)

-- what is given is determined
given_once : (given : Datum) (flags : ℕ) (lossy : Bool) → OnceWith (IsConverted given flags lossy)
given_once given flags lossy v w r s a b h k =
    (h.value_is ∙ sym k.value_is, h.status_is ∙ sym k.status_is, h.loses_is ∙ sym k.loses_is)

-- a conversion to finite values alone has one result
finite_once : (nans : FiniteNan) (f g : Format) (mode : Round) (x : Datum)
    → OnceWith (IsFiniteConversion nans f g mode x)
finite_once Kept f g mode (nan c t) v w r s a b h k = conversion_once f g mode (nan c t) v w r s a b h k
finite_once Largest f g mode (nan c t) v w r s a b h k = given_once _ _ _ v w r s a b h k
finite_once nans f g mode (infinite c) v w r s a b h k = given_once _ _ _ v w r s a b h k
finite_once nans f g mode (finite c n) v w r s a b h k = saturated_once f g mode (finite c n) v w r s a b h k

-- so does a conversion with any treatment of overflow
pub conversion_by_once : (overflow : Overflow) (f g : Format) (mode : Round) (x : Datum)
    → OnceWith (IsConversionBy overflow f g mode x)
conversion_by_once Rounded f g mode x v w r s a b h k = conversion_once f g mode x v w r s a b h k
conversion_by_once Saturated f g mode x v w r s a b h k = saturated_once f g mode x v w r s a b h k
conversion_by_once (Finite nans) f g mode x v w r s a b h k = finite_once nans f g mode x v w r s a b h k

-- outcomes with the same flags are equal if both are NaNs or neither is
pub same_outcome : (one other : Outcome) → bits_of one.status ≡ bits_of other.status → one.is_nan ≡ other.is_nan
    → one ≡ other
same_outcome a b status test =
    ap (λ (n : ℕ). record { status = record { 0 = n }; is_nan = a.is_nan }) status
    ∙ ap (λ (n : Bool). record { status = b.status; is_nan = n }) test

-- the conversion of a value determines the number and the outcome
pub converted_value_once : (overflow : Overflow) (c d : Constants) (mode : Round) (input bytes other : List ℕ)
    (outcome also : Outcome) → IsLawful d → d.precision < d.bits
    → IsConvertedBy overflow c d mode input bytes outcome → IsConvertedBy overflow c d mode input other also
    → (number_of bytes ≡ number_of other) × (outcome ≡ also)
converted_value_once overflow c d mode input bytes other o p law wide x y =
    let same = conversion_by_once overflow (format_with c) (format_with d) mode
    (datum_of (format_with c) (layout_with c) (number_of input)) x.value y.value (bits_of o.status) (bits_of p.status)
    x.loses y.loses x.is_conversion y.is_conversion in
    let encodes = λ (v : Datum). IsEncodedBy (format_with d) (layout_with d) (number_of bytes) v in (
      encoded_once (format_with d) (layout_with d) y.value (number_of bytes) (number_of other)
          (lawful_interchange d law wide) (subst encodes same.0 x.is_encoded) y.is_encoded,
      same_outcome o p same.1 (x.nan_is ∙ ap is_nan same.0 ∙ sym y.nan_is),
    )

-- the conversion of the places of a block is unique
pub block_places_once : (overflow : Overflow) (c d : Constants) (mode : Round) (source target count : ℕ)
    (input bytes other : List ℕ) (counts others : Counts) → IsLawful d → d.precision < d.bits → AreBytes bytes
    → AreBytes other → length bytes ≡ length other
    → IsBlock (IsConvertedBy overflow c d mode) source target count input bytes counts
    → IsBlock (IsConvertedBy overflow c d mode) source target count input other others
    → (take (count * target) bytes ≡ take (count * target) other) × (counts ≡ others)
block_places_once overflow c d mode source target count input bytes other counts others law wide a b size x y =
    let Holds : ℕ → List ℕ → Outcome → Type 0 =
    λ index output outcome. IsConvertedBy overflow c d mode (value_at source index input) output outcome in
    let fixes : FixesPlaces Holds = λ index output written outcome also.
    converted_value_once overflow c d mode (value_at source index input) output written outcome also law wide in
    let one : AreInPlaces Holds target count bytes x.outcomes = record { size = x.size; each = x.each } in
    let two : AreInPlaces Holds target count other y.outcomes = record { size = y.size; each = y.each } in
    let same = places_once Holds target count bytes other x.outcomes y.outcomes fixes a b size one two in
    (same.0, x.counted ∙ ap counts_of same.1 ∙ sym y.counted)

-- the conversion of a block is unique, since all its bytes are in these places
pub block_once : IsBlockOnce
block_once overflow c d mode source target count input bytes other counts others law wide a b x y =
    let same = block_places_once overflow c d mode source target count input bytes other counts others law wide
    a.are_bytes b.are_bytes (a.size ∙ sym b.size) x y in
    let all : length bytes ≤ count * target = omega (arith, a.size) in
    let also : length other ≤ count * target = omega (arith, b.size) in
    (sym (take_all (count * target) bytes all) ∙ same.0 ∙ take_all (count * target) other also, same.1)
