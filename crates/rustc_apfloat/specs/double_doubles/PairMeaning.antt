-- What the calls on pairs of doubles return.
use Rattle.apfloat_base.specs.Meaning.{Meaning}
use Rattle.apfloat_model.specs.rounding.Flags.{Gives, bits_of}
use Rattle.apfloat_pair_theory.specs.PairCalls.{IsPairExactInverse, IsPairFromSigned, IsPairFromUnsigned}
use Rattle.apfloat_pair_theory.specs.PairCalls.{IsPairNearestRemainder, IsPairNextDown, IsPairNextUp, IsPairQuotient}
use Rattle.apfloat_pair_theory.specs.PairCalls.{IsPairRead, IsPairRoundToIntegral, IsPairToSigned, IsPairToUnsigned}
use Rattle.apfloat_pair_theory.specs.{PairCalls.IsPairTruncatedRemainder, PairParts.compared_pair_magnitudes}
use Rattle.apfloat_pair_theory.specs.PairParts.{is_denormal_pair, is_integer_pair, is_negative_pair, is_signaling_pair}
use Rattle.apfloat_pair_theory.specs.PairParts.{pair_infinity, pair_largest, pair_qnan, pair_smallest}
use Rattle.apfloat_pair_theory.specs.PairParts.{pair_smallest_normalized, pair_snan, pair_zero, same_pair}
use Rattle.apfloat_pair_theory.specs.PairParts.{CanComparePairMagnitudes, IsPairFraction, IsPairIlogb, IsPairScaling}
use Rattle.apfloat_pair_theory.specs.{PairProducts.IsPairProduct, Pairs.Pair, Pairs.IsPairEncodedBy, Pairs.negated_pair}
use Rattle.apfloat_pair_theory.specs.{Pairs.pair_category, Pairs.pair_of, PairSums.IsPairDifference, PairSums.IsPairSum}

abbrev pub pair_meaning : Meaning Pair
pair_meaning =
    record {
      the_zero = pair_zero;
      the_infinity = pair_infinity;
      quiet_nan_of = pair_qnan;
      signaling_nan_of = pair_snan;
      the_largest = pair_largest;
      the_smallest = pair_smallest;
      the_smallest_normalized = pair_smallest_normalized;
      adds = λ x y mode answer. Gives (IsPairSum mode x y) answer;
      subtracts = λ x y mode answer. Gives (IsPairDifference mode x y) answer;
      multiplies = λ x y mode answer. Gives (IsPairProduct mode x y) answer;
      divides = λ x y mode answer. Gives (IsPairQuotient mode x y) answer;
      leaves_nearest = λ x y answer. Gives (IsPairNearestRemainder x y) answer;
      leaves = λ x y answer. Gives (IsPairTruncatedRemainder x y) answer;
      rounds_to_integral = λ x mode answer. Gives (IsPairRoundToIntegral mode x) answer;
      steps_up = λ x answer. Gives (IsPairNextUp x) answer;
      steps_down = λ x answer. Gives (IsPairNextDown x) answer;
      negated = negated_pair;
      value_of_bits = pair_of;
      converts_signed = λ number mode answer. Gives (IsPairFromSigned mode number) answer;
      converts_unsigned = λ number mode answer. Gives (IsPairFromUnsigned mode number) answer;
      reads = λ text mode answer. IsPairRead mode text answer;
      writes_bits = λ x bits. IsPairEncodedBy bits x;
      converts_to_signed = λ x width mode answer exact.
          IsPairToSigned mode width x answer.value (bits_of answer.status) exact;
      converts_to_unsigned = λ x width mode answer exact.
          IsPairToUnsigned mode width x answer.value (bits_of answer.status) exact;
      can_compare_magnitudes = CanComparePairMagnitudes;
      magnitude_order = compared_pair_magnitudes;
      same = same_pair;
      sign_of = is_negative_pair;
      denormal = is_denormal_pair;
      signals = is_signaling_pair;
      category_of = pair_category;
      is_whole = is_integer_pair;
      inverts = IsPairExactInverse;
      has_exponent = IsPairIlogb;
      scales = λ x places mode value. IsPairScaling mode x places value;
      has_fraction = λ x mode value exponent. IsPairFraction mode x value exponent;
    }
