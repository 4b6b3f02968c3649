-- What the calls on the values of a format return.
use Rattle.apfloat_base.specs.Meaning.{Meaning}
use Rattle.apfloat_model.specs.{order.Order.AreFiniteNonZero, order.Order.compared_magnitudes, rounding.Flags.Gives}
use Rattle.apfloat_model.specs.{rounding.Flags.bits_of, rounding.Negation.negated, texts.Parsing.IsRead}
use Rattle.apfloat_model.specs.arithmetic.{NextUp.IsNextDown, NextUp.IsNextUp, Products.IsProduct, Quotients.IsQuotient}
use Rattle.apfloat_model.specs.arithmetic.{Scaling.IsScaling, Sums.IsDifference, Sums.IsSum, Exponents.IsExactInverse}
use Rattle.apfloat_model.specs.arithmetic.{Exponents.IsFrexp, Exponents.IsIlogb, Remainders.IsNearestRemainder}
use Rattle.apfloat_model.specs.{arithmetic.Remainders.IsTruncatedRemainder, bits.Layout.Layout, bits.Layout.IsEncodedBy}
use Rattle.apfloat_model.specs.{bits.Layout.datum_of, formats.Datum.Datum, formats.Format.Format}
use Rattle.apfloat_model.specs.formats.{Nan.is_signaling_nan, Nan.qnan, Nan.snan, Constants.infinity_datum}
use Rattle.apfloat_model.specs.formats.Constants.{largest_datum, smallest_datum, smallest_normalized_datum, zero_datum}
use Rattle.apfloat_model.specs.order.Classes.{category_of, is_denormal, is_integer, is_negative, same_datum}
use Rattle.apfloat_model.specs.whole_numbers.WholeNumbers.{IsFromSigned, IsFromUnsigned, IsRoundToIntegral}
use Rattle.apfloat_model.specs.whole_numbers.WholeNumbersOut.{IsToSigned, IsToUnsigned}

abbrev pub format_meaning : Format → Layout → Meaning Datum
format_meaning format layout =
    record {
      the_zero = zero_datum;
      the_infinity = infinity_datum format;
      quiet_nan_of = qnan format;
      signaling_nan_of = snan format;
      the_largest = largest_datum format;
      the_smallest = smallest_datum;
      the_smallest_normalized = smallest_normalized_datum format;
      adds = λ x y mode answer. Gives (IsSum format mode x y) answer;
      subtracts = λ x y mode answer. Gives (IsDifference format mode x y) answer;
      multiplies = λ x y mode answer. Gives (IsProduct format mode x y) answer;
      divides = λ x y mode answer. Gives (IsQuotient format mode x y) answer;
      leaves_nearest = λ x y answer. Gives (IsNearestRemainder format x y) answer;
      leaves = λ x y answer. Gives (IsTruncatedRemainder format x y) answer;
      rounds_to_integral = λ x mode answer. Gives (IsRoundToIntegral format mode x) answer;
      steps_up = λ x answer. Gives (IsNextUp format x) answer;
      steps_down = λ x answer. Gives (IsNextDown format x) answer;
      negated = negated format.nonfinite;
      value_of_bits = datum_of format layout;
      converts_signed = λ number mode answer. Gives (IsFromSigned format mode number) answer;
      converts_unsigned = λ number mode answer. Gives (IsFromUnsigned format mode number) answer;
      reads = λ text mode answer. IsRead format mode text answer;
      writes_bits = λ x bits. IsEncodedBy format layout bits x;
      converts_to_signed = λ x width mode answer exact.
          IsToSigned format mode width x answer.value (bits_of answer.status) exact;
      converts_to_unsigned = λ x width mode answer exact.
          IsToUnsigned format mode width x answer.value (bits_of answer.status) exact;
      can_compare_magnitudes = AreFiniteNonZero;
      magnitude_order = compared_magnitudes;
      same = same_datum;
      sign_of = is_negative;
      denormal = is_denormal format;
      signals = is_signaling_nan format;
      category_of = category_of;
      is_whole = is_integer format;
      inverts = IsExactInverse format;
      has_exponent = λ x exponent. IsIlogb format x exponent;
      scales = λ x places mode value. IsScaling format mode x places value;
      has_fraction = λ x mode value exponent. IsFrexp format x value exponent;
    }
