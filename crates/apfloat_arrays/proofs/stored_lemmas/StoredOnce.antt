-- The conversion of a value into a storage format or out of it is unique.
use Rattle.std.proofs.Common.{◌≡◌, ℕ, ◌^◌, ◌<◌, Bool, true, false, List, sym, refl, ap, ◌∙◌, subst}
use Rattle.std.specs.{Bool.MatchBool, Prelude.⊤}
use Rattle.rustc_apfloat.specs.{declared.Round.Round, Classes.is_nan, Classes.is_negative, Datum.Datum, Datum.finite}
use Rattle.rustc_apfloat.specs.{Datum.infinite, Datum.nan, Flags.bits_of, Format.Format}
use Rattle.rustc_apfloat.specs.Lawful.{Constants, IsLawful, format_with, layout_with}
use Rattle.rustc_apfloat.specs.Layout.{datum_of, IsEncodedBy}
use Rattle.apfloat_model.proofs.{Once.conversion_once, bits.EncodedOnce.encoded_once, bits.Encodings.lawful_interchange}
use Rattle.small_formats.specs.Float8E3M4.{e3m4_datum, e3m4_format, e3m4_layout}
use Rattle.small_formats.specs.LawTest.{lawful_from_test}
use Rattle.small_formats.specs.declared.saturation.FiniteNan.{FiniteNan, TheVariants.Kept, TheVariants.Largest}
use Rattle.small_formats.specs.declared.saturation.Overflow.{Overflow}
use Rattle.small_formats.specs.declared.saturation.Overflow.TheVariants.{Rounded, Saturated, Finite}
use Rattle.small_formats.proofs.{OneAnswer.into_once, OneAnswer.unsigned_once, ScaleModes.scale_once}
use Rattle.small_formats.proofs.NarrowCodes.{e3m4_encoded, e3m4_interchange}
use Rattle.formats_at_run_time.specs.{BuiltIns.constants_in, FlaggedKinds.flagged_constants}
use Rattle.apfloat_arrays.specs.{Bytes.number_of, stored.Formats.format_in, stored.Formats.keeps_infinity}
use Rattle.apfloat_arrays.specs.declared.counts.Outcome.{Outcome}
use Rattle.apfloat_arrays.specs.declared.stored.formats.StoredFormat.{StoredFormat, TheVariants.E2M1FN}
use Rattle.apfloat_arrays.specs.declared.stored.formats.StoredFormat.TheVariants.{E2M3FN, E3M2FN, E3M4, E8M0FNU, UE4M3}
use Rattle.apfloat_arrays.specs.declared.stored.array.Ends.{Ends, TheVariants.Into, TheVariants.OutOf}
use Rattle.apfloat_arrays.specs.stored.{Stored.IsFiniteCode, Arrays.IsConvertedAt, Arrays.IsLoaded, Arrays.IsStoredAs}
use Rattle.apfloat_arrays.specs.stored.Formats.{bits_in, datum_in, e2m1fn_constants, e2m3fn_constants, e3m2fn_constants}
use Rattle.apfloat_arrays.specs.stored.Stored.{IsLargest, IsOwn, IsSaturatedCode, IsStoredBy, saturated_code}
use Rattle.apfloat_arrays.proofs.OneBlock.{conversion_by_once, same_outcome}

-- ---- the format's own conversion

own_once : (format : StoredFormat) (f : Format) (mode : Round) (x : Datum) (code other status flags : ℕ)
    → code < 2 ^ bits_in format → other < 2 ^ bits_in format → IsOwn format f mode x code status
    → IsOwn format f mode x other flags → (code ≡ other) × (status ≡ flags)
own_once E2M1FN f mode x code other status flags l k h j =
    let same = into_once e2m1fn_constants f mode x code other status flags h.loses j.loses (lawful_from_test _ refl)
    l k h.is_stored j.is_stored in
    (same.0, same.1)
own_once E2M3FN f mode x code other status flags l k h j =
    let same = into_once e2m3fn_constants f mode x code other status flags h.loses j.loses (lawful_from_test _ refl)
    l k h.is_stored j.is_stored in
    (same.0, same.1)
own_once E3M2FN f mode x code other status flags l k h j =
    let same = into_once e3m2fn_constants f mode x code other status flags h.loses j.loses (lawful_from_test _ refl)
    l k h.is_stored j.is_stored in
    (same.0, same.1)
own_once E3M4 f mode x code other status flags l k h j =
    let same = conversion_once f e3m4_format mode x (e3m4_datum code) (e3m4_datum other) status flags h.loses j.loses
    h.is_stored j.is_stored in
    let encodes = λ (d : Datum). IsEncodedBy e3m4_format e3m4_layout code d in (
      encoded_once e3m4_format e3m4_layout (e3m4_datum other) code other e3m4_interchange
          (subst encodes same.0 (e3m4_encoded code l)) (e3m4_encoded other k),
      same.1,
    )
own_once E8M0FNU f mode x code other status flags l k h j =
    let same = scale_once f mode x code other status flags h.loses j.loses h.is_stored j.is_stored in
    (same.0, same.1)
own_once UE4M3 f mode x code other status flags l k h j =
    let same = unsigned_once f mode x code other status flags h.loses j.loses l k h.is_stored j.is_stored in
    (same.0, same.1)

-- ---- saturation

saturated_code_once : (format : StoredFormat) (f : Format) (mode : Round) (x : Datum)
    (code other status flags : ℕ) → IsSaturatedCode format f mode x code status
    → IsSaturatedCode format f mode x other flags → (code ≡ other) × (status ≡ flags)
saturated_code_once format f mode x code other status flags h j =
    let same = own_once format f mode x h.own j.own status flags h.own_fits j.own_fits h.is_own j.is_own in (
      h.code_is ∙ ap (λ (n : ℕ). saturated_code format (is_negative x) n status) same.0
          ∙ ap (λ (n : ℕ). saturated_code format (is_negative x) j.own n) same.1 ∙ sym j.code_is,
      same.1,
    )

largest_once : (format : StoredFormat) (negative : Bool) (bits code other status flags : ℕ)
    → IsLargest format negative bits code status → IsLargest format negative bits other flags
    → (code ≡ other) × (status ≡ flags)
largest_once format negative bits code other status flags h j =
    (h.code_is ∙ sym j.code_is, h.status_is ∙ sym j.status_is)

-- an infinity that is kept, or becomes the largest number
infinity_once : (keeps b : Bool) (bits : ℕ) (format : StoredFormat) (f : Format) (mode : Round) (x : Datum)
    (code other status flags : ℕ) → code < 2 ^ bits_in format → other < 2 ^ bits_in format
    → MatchBool keeps (IsOwn format f mode x code status) (IsLargest format b bits code status)
    → MatchBool keeps (IsOwn format f mode x other flags) (IsLargest format b bits other flags)
    → (code ≡ other) × (status ≡ flags)
infinity_once true b bits format f mode x code other status flags l k h j =
    own_once format f mode x code other status flags l k h j
infinity_once false b bits format f mode x code other status flags l k h j =
    largest_once format b bits code other status flags h j

finite_code_once : (nans : FiniteNan) (format : StoredFormat) (f : Format) (mode : Round) (x : Datum)
    (code other status flags : ℕ) → code < 2 ^ bits_in format → other < 2 ^ bits_in format
    → IsFiniteCode nans format f mode x code status → IsFiniteCode nans format f mode x other flags
    → (code ≡ other) × (status ≡ flags)
finite_code_once Kept format f mode (nan b s) code other status flags l k h j =
    own_once format f mode (nan b s) code other status flags l k h j
finite_code_once Largest format f mode (nan b s) code other status flags l k h j =
    largest_once format false _ code other status flags h j
finite_code_once nans format f mode (infinite b) code other status flags l k h j =
    infinity_once (keeps_infinity format b) b _ format f mode (infinite b) code other status flags l k h j
finite_code_once nans format f mode (finite b n) code other status flags l k h j =
    saturated_code_once format f mode (finite b n) code other status flags h j

stored_by_once : (overflow : Overflow) (format : StoredFormat) (f : Format) (mode : Round) (x : Datum)
    (code other status flags : ℕ) → code < 2 ^ bits_in format → other < 2 ^ bits_in format
    → IsStoredBy overflow format f mode x code status → IsStoredBy overflow format f mode x other flags
    → (code ≡ other) × (status ≡ flags)
stored_by_once Rounded format f mode x code other status flags l k h j =
    own_once format f mode x code other status flags l k h j
stored_by_once Saturated format f mode x code other status flags l k h j =
    saturated_code_once format f mode x code other status flags h j
stored_by_once (Finite nans) format f mode x code other status flags l k h j =
    finite_code_once nans format f mode x code other status flags l k h j

-- ---- values

pub stored_once : (overflow : Overflow) (c : Constants) (format : StoredFormat) (mode : Round) (bits code other : ℕ)
    (outcome also : Outcome) → IsStoredAs overflow c format mode bits code outcome
    → IsStoredAs overflow c format mode bits other also → (code ≡ other) × (outcome ≡ also)
stored_once overflow c format mode bits code other outcome also h j =
    let same = stored_by_once overflow format (format_with c) mode (datum_of (format_with c) (layout_with c) bits)
    code other (bits_of outcome.status) (bits_of also.status) h.fits j.fits h.is_stored j.is_stored in (
      same.0,
      same_outcome outcome also same.1
          (h.nan_is ∙ ap (λ (n : ℕ). is_nan (datum_in format n)) same.0 ∙ sym j.nan_is),
    )

pub loaded_once : (overflow : Overflow) (format : StoredFormat) (d : Constants) (mode : Round) (code bits other : ℕ)
    (outcome also : Outcome) → IsLawful d → d.precision < d.bits
    → IsLoaded overflow format d mode code bits outcome → IsLoaded overflow format d mode code other also
    → (bits ≡ other) × (outcome ≡ also)
loaded_once overflow format d mode code bits other outcome also law wide h j =
    let same = conversion_by_once overflow (format_in format) (format_with d) mode (datum_in format code) h.value
    j.value (bits_of outcome.status) (bits_of also.status) h.loses j.loses h.is_conversion j.is_conversion in
    let encodes = λ (v : Datum). IsEncodedBy (format_with d) (layout_with d) bits v in (
      encoded_once (format_with d) (layout_with d) j.value bits other (lawful_interchange d law wide)
          (subst encodes same.0 h.is_encoded) j.is_encoded,
      same_outcome outcome also same.1 (h.nan_is ∙ ap is_nan same.0 ∙ sym j.nan_is),
    )

-- what is known of the target format, if it is not a storage format
abbrev pub HasLaw : Ends → Type 0
HasLaw (Into source target) = ⊤
HasLaw (OutOf source target) =
    IsLawful (flagged_constants target)
    × ((flagged_constants target).precision < (flagged_constants target).bits)

-- the conversion of a value determines the number in its bytes and the outcome
pub converted_at_once : (overflow : Overflow) (mode : Round) (ends : Ends) (input bytes other : List ℕ)
    (outcome also : Outcome) → HasLaw ends → IsConvertedAt overflow mode ends input bytes outcome
    → IsConvertedAt overflow mode ends input other also
    → (number_of bytes ≡ number_of other) × (outcome ≡ also)
converted_at_once overflow mode (Into source target) input bytes other outcome also law h j =
    stored_once overflow (constants_in source) target mode (number_of input) (number_of bytes) (number_of other)
    outcome also h j
converted_at_once overflow mode (OutOf source target) input bytes other outcome also law h j =
    loaded_once overflow source (flagged_constants target) mode (number_of input) (number_of bytes) (number_of other)
    outcome also law.0 law.1 h j
