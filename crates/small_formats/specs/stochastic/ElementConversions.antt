-- Conversions into storage formats whose numbers are those of a format of the model: `e3m4`, and `e4m3fn` without a
-- sign.
use Rattle.std.specs.Prelude.{◌≡◌, ℕ, ◌<◌, Bool}
use Rattle.std.specs.Bool.{MatchBool}
use Rattle.apfloat_model.specs.formats.{Datum.Datum, Datum.finite, Datum.infinite, Datum.nan, Format.Format}
use Rattle.small_formats.specs.{declared.modes.ConversionRound.ConversionRound, Float8E3M4.e3m4_datum}
use Rattle.small_formats.specs.{Float8E3M4.e3m4_format, Modes.ieee_mode, Unsigned.IsUnsigned, Unsigned.signed_format}
use Rattle.small_formats.specs.{Unsigned.unsigned_datum, stochastic.ModeConversions.IsConversionBy}

-- As `IsUnsigned`. What is not rounded becomes what it does in each mode of IEEE 754.
abbrev pub IsUnsignedBy : Format → ConversionRound → Datum → ℕ → ℕ → Bool → Type 0
IsUnsignedBy f mode (nan b s) code status loses_info = IsUnsigned f (ieee_mode mode) (nan b s) code status loses_info
IsUnsignedBy f mode (infinite b) code status loses_info =
    IsUnsigned f (ieee_mode mode) (infinite b) code status loses_info
IsUnsignedBy f mode (finite b n) code status loses_info =
    MatchBool b (IsUnsigned f (ieee_mode mode) (finite b n) code status loses_info)
    (IsConversionBy f signed_format mode (finite b n) (unsigned_datum code) status loses_info)

-- ---- theorems

-- the code, the flags and the loss of information are determined
abbrev pub IsE3M4ByOnce : Type 0
IsE3M4ByOnce =
    (f : Format) (mode : ConversionRound) (x : Datum) (code other status flags : ℕ) (loses lost : Bool)
    → code < 256 → other < 256 → IsConversionBy f e3m4_format mode x (e3m4_datum code) status loses
    → IsConversionBy f e3m4_format mode x (e3m4_datum other) flags lost
    → (code ≡ other) × (status ≡ flags) × (loses ≡ lost)

-- codes are below 2 ^ 7
abbrev pub IsUnsignedByOnce : Type 0
IsUnsignedByOnce =
    (f : Format) (mode : ConversionRound) (x : Datum) (code other status flags : ℕ) (loses lost : Bool)
    → code < 128 → other < 128 → IsUnsignedBy f mode x code status loses
    → IsUnsignedBy f mode x other flags lost
    → (code ≡ other) × (status ≡ flags) × (loses ≡ lost)
