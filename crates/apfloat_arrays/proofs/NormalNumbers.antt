-- The result for a number that is converted from bits to bits.
use Rattle.std.proofs.Common.{◌≡◌, ℕ, Bool, false, not, eqb, refl, sym, ap, subst}
use Rattle.std.proofs.Math.Path.{subst₂}
use Rattle.fast_bits.specs.{declared.Encoded.Encoded, Encoded.IsEncodedConversion}
use Rattle.rustc_apfloat.specs.{declared.Round.Round, Datum.Datum, Datum.finite, Flags.bits_of, Format.Format}
use Rattle.rustc_apfloat.specs.Lawful.{Constants, format_with, layout_with}
use Rattle.rustc_apfloat.specs.{Layout.IsEncodedBy, Rounding.ok_bits}
use Rattle.apfloat_arrays.specs.{declared.converted.Converted.Converted, FarNumbers.with_overflow, Values.IsAnswerFrom}
use Rattle.apfloat_arrays.proofs.FarNumbers.{number_converted}
use Rattle.small_formats.specs.declared.saturation.saturation.Overflow.{Overflow}
use Rattle.small_formats.specs.declared.saturation.saturation.Overflow.TheVariants.{Rounded, Saturated, Finite}
use Rattle.small_formats.specs.saturation.Saturation.{IsConversionBy}

-- a number is kept, with any treatment of overflow
kept_number : (overflow : Overflow) (g : Format) (left right : Bool) (quanta : ℕ)
    → with_overflow overflow g left (finite right quanta) ≡ finite right quanta
kept_number Rounded g left right quanta = refl
kept_number Saturated g left right quanta = refl
kept_number (Finite nans) g left right quanta = refl

pub number_answered : (overflow : Overflow) (c d : Constants) (mode : Round) (bits : ℕ) (number : Encoded)
    (answer : Converted) → IsEncodedConversion c d mode bits number
    → answer.bits ≡ number.bits → answer.outcome.status ≡ number.status → answer.outcome.is_nan ≡ false
    → IsAnswerFrom overflow c d mode bits answer
number_answered overflow c d mode bits number answer is bits_are status_is no_nan =
    let g = format_with d in
    let it = is.number in
    let value = finite is.negative it.quanta in
    let status = bits_of number.status in
    let flags : bits_of answer.outcome.status ≡ bits_of number.status = ap bits_of status_is in
    let converted : IsConversionBy overflow (format_with c) (format_with d) mode (finite is.negative is.quanta)
    (finite is.negative it.quanta) (bits_of number.status) (not (eqb (bits_of number.status) ok_bits)) =
    subst
    (λ (v : Datum). IsConversionBy overflow (format_with c) (format_with d) mode (finite is.negative is.quanta) v
    (bits_of number.status) (not (eqb (bits_of number.status) ok_bits)))
    (kept_number overflow g is.negative is.negative it.quanta)
    (number_converted overflow (format_with c) g mode is.negative is.quanta value status is.some it.is_delivered) in
    record {
      value = value;
      loses = not (eqb status ok_bits);
      is_conversion =
          subst₂
          (λ (x : Datum) (n : ℕ). IsConversionBy overflow (format_with c) (format_with d) mode x
          (finite is.negative it.quanta) n (not (eqb (bits_of number.status) ok_bits)))
          (sym is.read) (sym flags) converted;
      is_encoded =
          subst (λ (n : ℕ). IsEncodedBy (format_with d) (layout_with d) n (finite is.negative it.quanta))
          (sym bits_are) it.is_encoded;
      nan_is = no_nan;
    }
