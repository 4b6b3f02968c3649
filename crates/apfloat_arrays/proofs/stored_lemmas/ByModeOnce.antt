-- The conversion of a value into a storage format by a mode of conversions is unique.
use Rattle.std.proofs.Common.{◌≡◌, ℕ, ◌^◌, ◌<◌, Bool, sym, refl, ap, ◌∙◌, subst}
use Rattle.rustc_apfloat.specs.{Classes.is_nan, Datum.Datum, Flags.bits_of, Format.Format, Lawful.Constants}
use Rattle.rustc_apfloat.specs.{Lawful.format_with, Lawful.layout_with, Layout.datum_of}
use Rattle.formats_at_run_time.specs.BuiltIns.{constants_in}
use Rattle.small_formats.specs.declared.ConversionRound.{ConversionRound, TheVariants.Ieee, TheVariants.ToOdd}
use Rattle.small_formats.specs.declared.{ConversionRound.TheVariants.Stochastic, NanResult.TheVariants.Zero}
use Rattle.small_formats.specs.{LawTest.lawful_from_test, ModeLaws.IsIntoByOnce, ScaleModes.IsScaleByOnce}
use Rattle.small_formats.specs.stochastic.ElementConversions.{IsE3M4ByOnce, IsUnsignedByOnce}
use Rattle.small_formats.proofs.ModesOnce.{same_digits}
use Rattle.apfloat_arrays.specs.declared.{counts.Outcome.Outcome, stored.formats.StoredFormat.StoredFormat}
use Rattle.apfloat_arrays.specs.declared.stored.formats.StoredFormat.TheVariants.{E2M1FN, E2M3FN, E3M2FN, E3M4, E8M0FNU}
use Rattle.apfloat_arrays.specs.declared.stored.{formats.StoredFormat.TheVariants.UE4M3, by_mode.EachRound.EachRound}
use Rattle.apfloat_arrays.specs.declared.stored.by_mode.EachRound.TheVariants.{Ieee as EachIeee, ToOdd as EachToOdd}
use Rattle.apfloat_arrays.specs.declared.stored.by_mode.EachRound.TheVariants.{Stochastic as EachStochastic}
use Rattle.apfloat_arrays.specs.declared.stored.by_mode.ModeConversion.{ModeConversion}
use Rattle.apfloat_arrays.specs.stored.ByMode.{IsModeWith, IsOwnBy, IsStoredByMode, IsStoredWith}
use Rattle.apfloat_arrays.specs.stored.Formats.{bits_in, datum_in, e2m1fn_constants, e2m3fn_constants, e3m2fn_constants}
use Rattle.apfloat_arrays.proofs.OneBlock.{same_outcome}

-- ---- modes

mode_once : (round : EachRound) (random : ℕ) (one other : ConversionRound) → IsModeWith round random one
    → IsModeWith round random other → one ≡ other
mode_once (EachIeee mode) random (Ieee a) (Ieee b) h j = ap (λ r. Ieee r) (h ∙ sym j)
mode_once (EachIeee mode) random (Ieee a) ToOdd h j = absurd j
mode_once (EachIeee mode) random (Ieee a) (Stochastic b) h j = absurd j
mode_once (EachIeee mode) random ToOdd other h j = absurd h
mode_once (EachIeee mode) random (Stochastic a) other h j = absurd h
mode_once EachToOdd random ToOdd ToOdd h j = refl
mode_once EachToOdd random ToOdd (Ieee b) h j = absurd j
mode_once EachToOdd random ToOdd (Stochastic b) h j = absurd j
mode_once EachToOdd random (Ieee a) other h j = absurd h
mode_once EachToOdd random (Stochastic a) other h j = absurd h
mode_once (EachStochastic digits) random (Stochastic a) (Stochastic b) h j =
    ap (λ r. Stochastic r) (same_digits a b (h.0 ∙ sym j.0) (h.1 ∙ sym j.1))
mode_once (EachStochastic digits) random (Stochastic a) (Ieee b) h j = absurd j
mode_once (EachStochastic digits) random (Stochastic a) ToOdd h j = absurd j
mode_once (EachStochastic digits) random (Ieee a) other h j = absurd h
mode_once (EachStochastic digits) random ToOdd other h j = absurd h

-- ---- values

-- what small_formats proves of each format
pub record AreOnce : Type 0 where
  pub elements : IsIntoByOnce
  pub e3m4 : IsE3M4ByOnce
  pub scales : IsScaleByOnce
  pub unsigned : IsUnsignedByOnce

own_by_once : AreOnce → (format : StoredFormat) (f : Format) (mode : ConversionRound) (x : Datum)
    (code other status flags : ℕ) (loses lost : Bool) → code < 2 ^ bits_in format → other < 2 ^ bits_in format
    → IsOwnBy format f mode x code status loses → IsOwnBy format f mode x other flags lost
    → (code ≡ other) × (status ≡ flags)
own_by_once once E2M1FN f mode x code other status flags loses lost l k h j =
    let same = once.elements e2m1fn_constants f mode Zero x code other status flags loses lost
    (lawful_from_test _ refl) l k h j in
    (same.0, same.1)
own_by_once once E2M3FN f mode x code other status flags loses lost l k h j =
    let same = once.elements e2m3fn_constants f mode Zero x code other status flags loses lost
    (lawful_from_test _ refl) l k h j in
    (same.0, same.1)
own_by_once once E3M2FN f mode x code other status flags loses lost l k h j =
    let same = once.elements e3m2fn_constants f mode Zero x code other status flags loses lost
    (lawful_from_test _ refl) l k h j in
    (same.0, same.1)
own_by_once once E3M4 f mode x code other status flags loses lost l k h j =
    let same = once.e3m4 f mode x code other status flags loses lost l k h j in
    (same.0, same.1)
own_by_once once E8M0FNU f mode x code other status flags loses lost l k h j =
    let same = once.scales f mode x code other status flags loses lost h j in
    (same.0, same.1)
own_by_once once UE4M3 f mode x code other status flags loses lost l k h j =
    let same = once.unsigned f mode x code other status flags loses lost l k h j in
    (same.0, same.1)

stored_by_mode_once : AreOnce → (c : Constants) (format : StoredFormat) (mode : ConversionRound)
    (bits code other : ℕ) (outcome also : Outcome) → IsStoredByMode c format mode bits code outcome
    → IsStoredByMode c format mode bits other also → (code ≡ other) × (outcome ≡ also)
stored_by_mode_once once c format mode bits code other outcome also h j =
    let same = own_by_once once format (format_with c) mode (datum_of (format_with c) (layout_with c) bits) code other
    (bits_of outcome.status) (bits_of also.status) h.loses j.loses h.fits j.fits h.is_own j.is_own in (
      same.0,
      same_outcome outcome also same.1
          (h.nan_is ∙ ap (λ (n : ℕ). is_nan (datum_in format n)) same.0 ∙ sym j.nan_is),
    )

pub stored_with_once : AreOnce → (it : ModeConversion) (random bits code other : ℕ) (outcome also : Outcome)
    → IsStoredWith it random bits code outcome → IsStoredWith it random bits other also
    → (code ≡ other) × (outcome ≡ also)
stored_with_once once it random bits code other outcome also h j =
    let same = mode_once it.round random h.mode j.mode h.is_mode j.is_mode in
    stored_by_mode_once once (constants_in it.source) it.target j.mode bits code other outcome also
    (subst (λ (m : ConversionRound). IsStoredByMode (constants_in it.source) it.target m bits code outcome) same
    h.is_stored) j.is_stored
