-- Conversions into storage formats by the modes of conversions.
use Rattle.std.specs.Prelude.{◌≡◌, ⊤, ℕ, ◌+◌, ◌*◌, ◌%◌, ◌^◌, ◌<◌, ◌≤◌, Bool, List}
use Rattle.rustc_apfloat.specs.{Classes.is_nan, Datum.Datum, Flags.bits_of, Format.Format, Lawful.Constants}
use Rattle.rustc_apfloat.specs.{Lawful.format_with, Lawful.layout_with, Layout.datum_of}
use Rattle.formats_at_run_time.specs.BuiltIns.{constants_in}
use Rattle.small_formats.specs.declared.ConversionRound.{ConversionRound}
use Rattle.small_formats.specs.declared.ConversionRound.TheVariants.{Ieee, ToOdd, Stochastic}
use Rattle.small_formats.specs.{declared.NanResult.TheVariants.Zero, Float8E3M4.e3m4_datum, Float8E3M4.e3m4_format}
use Rattle.small_formats.specs.{ModeConversions.IsIntoBy, ScaleModes.IsScaleBy}
use Rattle.small_formats.specs.stochastic.{ElementConversions.IsUnsignedBy, ModeConversions.IsConversionBy}
use Rattle.apfloat_arrays.specs.declared.counts.{Counts.Counts, Outcome.Outcome}
use Rattle.apfloat_arrays.specs.declared.{widths.Extended.TheVariants.Packed, stored.formats.StoredFormat.StoredFormat}
use Rattle.apfloat_arrays.specs.declared.stored.formats.StoredFormat.TheVariants.{E2M1FN, E2M3FN, E3M2FN, E3M4, E8M0FNU}
use Rattle.apfloat_arrays.specs.declared.stored.{formats.StoredFormat.TheVariants.UE4M3, by_mode.EachRound.EachRound}
use Rattle.apfloat_arrays.specs.declared.stored.by_mode.EachRound.TheVariants.{Ieee as EachIeee, ToOdd as EachToOdd}
use Rattle.apfloat_arrays.specs.declared.stored.by_mode.EachRound.TheVariants.{Stochastic as EachStochastic}
use Rattle.apfloat_arrays.specs.{declared.stored.by_mode.ModeConversion.ModeConversion, Blocks.AreInPlaces}
use Rattle.apfloat_arrays.specs.{Blocks.value_at, Bytes.number_of, Outcomes.counts_of, Widths.width_of}
use Rattle.apfloat_arrays.specs.stored.Formats.{bits_in, datum_in, e2m1fn_constants, e2m3fn_constants, e3m2fn_constants}

-- ---- modes

-- a stochastic mode has 1 to 32 random digits; the other modes need none
abbrev pub HasDigits : EachRound → Type 0
HasDigits (EachIeee mode) = ⊤
HasDigits EachToOdd = ⊤
HasDigits (EachStochastic digits) = (1 ≤ digits) × (digits ≤ 32)

-- the mode of a value with this random number, of which the lowest digits are taken
abbrev pub IsModeWith : EachRound → ℕ → ConversionRound → Type 0
IsModeWith (EachIeee mode) random (Ieee other) = other ≡ mode
IsModeWith EachToOdd random ToOdd = ⊤
IsModeWith (EachStochastic digits) random (Stochastic bits) =
    (bits.digits ≡ digits) × (bits.random ≡ random % 2 ^ digits)
IsModeWith round random mode = ⊥

-- ---- values

-- A value of the format f becomes this code. A NaN becomes +0 where there is no NaN.
abbrev pub IsOwnBy : StoredFormat → Format → ConversionRound → Datum → ℕ → ℕ → Bool → Type 0
IsOwnBy E2M1FN f mode x code status loses = IsIntoBy e2m1fn_constants f mode Zero x code status loses
IsOwnBy E2M3FN f mode x code status loses = IsIntoBy e2m3fn_constants f mode Zero x code status loses
IsOwnBy E3M2FN f mode x code status loses = IsIntoBy e3m2fn_constants f mode Zero x code status loses
IsOwnBy E3M4 f mode x code status loses = IsConversionBy f e3m4_format mode x (e3m4_datum code) status loses
IsOwnBy E8M0FNU f mode x code status loses = IsScaleBy f mode x code status loses
IsOwnBy UE4M3 f mode x code status loses = IsUnsignedBy f mode x code status loses

-- the value of these bits becomes this code
pub record IsStoredByMode (c : Constants) (format : StoredFormat) (mode : ConversionRound) (bits code : ℕ)
    (outcome : Outcome) : Type 0 where
  pub loses : Bool
  pub is_own : IsOwnBy format (format_with c) mode (datum_of (format_with c) (layout_with c) bits) code
      (bits_of outcome.status) loses
  pub fits : code < 2 ^ bits_in format
  pub nan_is : outcome.is_nan ≡ is_nan (datum_in format code)

-- the same with its random number
pub record IsStoredWith (it : ModeConversion) (random bits code : ℕ) (outcome : Outcome) : Type 0 where
  pub mode : ConversionRound
  pub is_mode : IsModeWith it.round random mode
  pub is_stored : IsStoredByMode (constants_in it.source) it.target mode bits code outcome

-- ---- arrays

abbrev pub mode_width : ModeConversion → ℕ
mode_width it = width_of it.source Packed

-- the random number with that index, of four bytes, or 0 where none is used
abbrev pub random_of : EachRound → List ℕ → ℕ → ℕ
random_of (EachIeee mode) randoms index = 0
random_of EachToOdd randoms index = 0
random_of (EachStochastic digits) randoms index = number_of (value_at 4 index randoms)

abbrev pub HasRandomAt : EachRound → ℕ → ℕ → Type 0
HasRandomAt (EachIeee mode) index length = ⊤
HasRandomAt EachToOdd index length = ⊤
HasRandomAt (EachStochastic digits) index length = index * 4 + 4 ≤ length

abbrev pub HasRandoms : EachRound → ℕ → ℕ → Type 0
HasRandoms (EachIeee mode) count length = ⊤
HasRandoms EachToOdd count length = ⊤
HasRandoms (EachStochastic digits) count length = length ≡ count * 4

-- the value with that index
abbrev pub IsStoredAt : ModeConversion → List ℕ → List ℕ → ℕ → List ℕ → Outcome → Type 0
IsStoredAt it randoms input index bytes outcome =
    IsStoredWith it (random_of it.round randoms index) (number_of (value_at (mode_width it) index input))
    (number_of bytes) outcome

-- each value is stored in its place
pub record AreStoredWith (it : ModeConversion) (randoms input : List ℕ) (count : ℕ) (output : List ℕ)
    (counts : Counts) : Type 0 where
  pub outcomes : List Outcome
  pub places : AreInPlaces (IsStoredAt it randoms input) 1 count output outcomes
  pub counted : counts ≡ counts_of outcomes
