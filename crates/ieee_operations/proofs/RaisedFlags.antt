-- OVERFLOW and UNDERFLOW are raised only together with INEXACT.
use Rattle.std.proofs.Common.{◌≡◌, ℕ, eqb, refl, sym, subst}
use Rattle.std.specs.Prelude.{ℤ}
use Rattle.apfloat_model.specs.{declared.kinds.Round.Round, formats.Format.Format}
use Rattle.apfloat_model.specs.formats.Datum.{Datum, finite, infinite, nan}
use Rattle.apfloat_model.specs.rounding.{Answer.IsAnswer, RaisedFlags.FlagsGoTogether}
use Rattle.apfloat_model.specs.whole_numbers.WholeNumbersOut.{to_signed, to_unsigned}
use Rattle.apfloat_model.proofs.rounding.FlagsTogether.{ok_together, delivered_together, from_signed_together}
use Rattle.apfloat_model.proofs.rounding.FlagsTogether.{to_signed_together, to_unsigned_together, invalid_if_together}
use Rattle.apfloat_model.proofs.rounding.{FlagsTogether.answer_together, StatusesTogether.div_by_zero_together}
use Rattle.apfloat_model.proofs.general.Choices.{match_case}
use Rattle.apfloat_conversions.specs.Scalings.{IsScaled}
use Rattle.ieee_operations.specs.RaisedFlags.{RaisesTogether, OperationFlagsGoTogether}
use Rattle.ieee_operations.specs.{Exponents.IsLogB, Exponents.IsLogBOfNumber, WholeNumbers.IsRoundedToIntegral}

-- a status that is a given one
given_together : (flags status : ℕ) → FlagsGoTogether flags → status ≡ flags → FlagsGoTogether status
given_together flags status h e = subst FlagsGoTogether (sym e) h

logarithm_of_number : (f : Format) (mode : Round) (n : ℕ) → RaisesTogether (IsLogBOfNumber f mode n)
logarithm_of_number f mode n value status x = from_signed_together f mode x.exponent value status x.is_converted

logarithm_together : (f : Format) (mode : Round) (x : Datum) → RaisesTogether (IsLogB f mode x)
logarithm_together f mode (nan b s) = answer_together _ _ (invalid_if_together _)
logarithm_together f mode (infinite b) = answer_together _ _ ok_together
logarithm_together f mode (finite b n) =
    match_case RaisesTogether (eqb n 0) (IsAnswer _ _) (IsLogBOfNumber f mode n)
    (answer_together _ _ div_by_zero_together) (logarithm_of_number f mode n)

scaled_together : (f : Format) (mode : Round) (x : Datum) (places : ℤ) → RaisesTogether (IsScaled f mode x places)
scaled_together f mode (nan b s) places = answer_together _ _ (invalid_if_together _)
scaled_together f mode (infinite b) places = answer_together _ _ ok_together
scaled_together f mode (finite b n) places = delivered_together f mode _ _ _

pub integral_together : (f : Format) (mode : Round) (x : Datum) → RaisesTogether (IsRoundedToIntegral f mode x)
integral_together f mode (nan b s) = answer_together _ _ (invalid_if_together _)
integral_together f mode (infinite b) = answer_together _ _ ok_together
integral_together f mode (finite b n) = answer_together _ _ ok_together

pub raise_together : (f : Format) → OperationFlagsGoTogether f
raise_together f =
    record {
      comparison = λ predicate on_nan x y value status h. given_together _ status (invalid_if_together _) h.status_is;
      comparison_between = λ other predicate on_nan x y value status h.
          given_together _ status (invalid_if_together _) h.status_is;
      extremum = λ which x y. answer_together _ _ (invalid_if_together _);
      extremum_number = λ which x y. answer_together _ _ (invalid_if_together _);
      logarithm = λ mode x. logarithm_together f mode x;
      integer_logarithm = λ x value status h. given_together _ status (invalid_if_together _) h.status_is;
      scaled = λ mode x places. scaled_together f mode x places;
      integral = λ mode x. integral_together f mode x;
      converted = λ mode low high x value status h. given_together _ status (invalid_if_together _) h.status_is;
      signed_exactly = λ mode width x value status h.
          to_signed_together f mode width x value status (to_signed f mode width x).is_exact
          (record { number_is = h.number_is; status_is = h.status_is; is_exact_is = refl });
      unsigned_exactly = λ mode width x number status h.
          to_unsigned_together f mode width x number status (to_unsigned f mode width x).is_exact
          (record { number_is = h.number_is; status_is = h.status_is; is_exact_is = refl });
    }
