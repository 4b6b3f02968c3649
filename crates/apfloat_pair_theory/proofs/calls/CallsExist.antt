-- Joins, splits and the calls in the wide format have results.
use Rattle.std.proofs.Common.{◌≡◌, ℕ, ◌*◌, ◌^◌, ◌<◌, Bool, false, not, ◌||◌, eqb, refl, lit<}
use Rattle.std.proofs.lemmas.Nat.{pow_pos}
use Rattle.std.specs.Prelude.{ℤ, pos, unsigned_abs, int_lt}
use Rattle.apfloat_model.specs.declared.kinds.Round.{Round, TheVariants.NearestTiesToEven}
use Rattle.apfloat_model.specs.formats.{Format.Format, Datum.Datum, Datum.finite, Datum.infinite, Datum.nan}
use Rattle.apfloat_model.specs.rounding.{Rounding.ok_bits, Negation.swapped}
use Rattle.apfloat_model.specs.order.{Classes.is_finite_non_zero, Classes.is_denormal, Order.is_equal}
use Rattle.apfloat_model.specs.arithmetic.Conversions.{IsConverted, IsConvertedNumber, IsConversion}
use Rattle.apfloat_model.specs.arithmetic.{Quotients.IsQuotient, Remainders.IsTruncatedRemainder}
use Rattle.apfloat_model.specs.arithmetic.Remainders.{IsNearestRemainder, truncated_quotient, nearest_quotient}
use Rattle.apfloat_model.specs.arithmetic.NextUp.{IsNextUp}
use Rattle.apfloat_model.specs.whole_numbers.WholeNumbers.{IsFromUnsigned, IsRoundToIntegral}
use Rattle.apfloat_model.proofs.rounding.Laws.{delivered_exists}
use Rattle.apfloat_model.proofs.AnswersExist.{HasAnswer, sum_exists, quotient_exists, scaling_exists}
use Rattle.apfloat_model.proofs.AnswersExist.{round_to_integral_exists, remainder_exists, next_up_exists}
use Rattle.apfloat_model.proofs.general.Choices.{match_one, match_case, match_three}
use Rattle.apfloat_pair_theory.specs.{PairFormats.double, PairFormats.wide, Pairs.Pair, Pairs.negated_pair}
use Rattle.apfloat_pair_theory.specs.Pairs.{IsWidened, IsSumOfParts, IsJoined, low_part, IsSplit, IsSplitAnswer}
use Rattle.apfloat_pair_theory.specs.{Pairs.IsWideAnswer, Pairs.IsWideAnswerOfTwo, PairParts.IsDenormalByParts}
use Rattle.apfloat_pair_theory.specs.{PairParts.IsDenormalPair, PairParts.IsPairScaling, PairCalls.IsPairQuotient}
use Rattle.apfloat_pair_theory.specs.PairCalls.{IsPairTruncatedRemainder, IsPairNearestRemainder, IsPairRoundToIntegral}
use Rattle.apfloat_pair_theory.specs.PairCalls.{IsPairNextUp, IsPairNextDown, IsPairFromUnsigned, IsPairFromNegative}
use Rattle.apfloat_pair_theory.specs.{PairCalls.IsPairFromSigned, PairAnswers.HasPairAnswer}

-- both formats have digits
some_double : 0 < double.precision
some_double = lit< tt

some_wide : 0 < wide.precision
some_wide = lit< tt

-- ---- conversions

abbrev HasConversion : (Datum → ℕ → Bool → Type 0) → Type 0
HasConversion R = (v : Datum) × ((s : ℕ) × ((l : Bool) × R v s l))

-- a conversion with a given result has that result
converted_exists : (datum : Datum) (flags : ℕ) (loses : Bool) → HasConversion (IsConverted datum flags loses)
converted_exists d t l = (d, (t, (l, record { value_is = refl; status_is = refl; loses_is = refl })))

-- each number of one format has a rounded value in another
number_exists : (from into : Format) → 0 < into.precision → (mode : Round) (negative : Bool) (quanta : ℕ)
    → HasConversion (IsConvertedNumber from into mode negative quanta)
number_exists from into p mode negative quanta =
    let d = delivered_exists into mode negative (quanta * 2 ^ into.scale) (2 ^ from.scale) p (pow_pos from.scale) in
    (d.0, (d.1.0, (not (eqb d.1.0 ok_bits), record { is_delivered = d.1.1; loses_is = refl })))

-- each datum of one format has a conversion to another
pub conversion_exists : (from into : Format) → 0 < into.precision → (mode : Round) (datum : Datum)
    → HasConversion (IsConversion from into mode datum)
conversion_exists from into p mode (nan b s) = converted_exists _ _ _
conversion_exists from into p mode (infinite b) = converted_exists _ _ _
conversion_exists from into p mode (finite b n) =
    match_three HasConversion (eqb n 0) (IsConverted _ _ _) (IsConvertedNumber from into mode b n)
    (converted_exists _ _ _) (number_exists from into p mode b n)

-- ---- joins and splits

abbrev pub HasDatum : (Datum → Type 0) → Type 0
HasDatum R = (v : Datum) × R v

-- each part of a pair has a conversion to the wide format
widened_exists : (part : Datum) → HasDatum (IsWidened part)
widened_exists part =
    let c = conversion_exists double wide some_wide NearestTiesToEven part in
    (c.0, record { status = c.1.0; loses_info = c.1.1.0; is_conversion = c.1.1.1 })

-- the converted parts of a pair have a sum
sum_of_parts_exists : (x : Pair) → HasDatum (IsSumOfParts x)
sum_of_parts_exists x =
    let a = widened_exists x.high in
    let b = widened_exists x.low in
    let c = sum_exists wide some_wide NearestTiesToEven a.0 b.0 in
    (c.0, record { high = a.0; low = b.0; status = c.1.0; high_is = a.1; low_is = b.1; is_sum = c.1.1 })

-- each pair has a join
pub joined_exists : (x : Pair) → HasDatum (IsJoined x)
joined_exists x =
    match_one HasDatum (is_finite_non_zero x.high) (IsSumOfParts x) (IsWidened x.high) (sum_of_parts_exists x)
    (widened_exists x.high)

-- each wide datum has a split
pub split_exists : (datum : Datum) → (answer : Pair) × IsSplit datum answer
split_exists x =
    let c = conversion_exists wide double some_double NearestTiesToEven x in
    let p : Pair = record { high = c.0; low = low_part x c.0 c.1.0 } in
    (p, record { status = c.1.0; loses_info = c.1.1.0; high_is = c.1.1.1; low_is = refl })

-- ---- calls in the wide format

-- a wide call that has a result has a split result
pub split_answer_exists : (call : Datum → ℕ → Type 0) → HasAnswer call → HasPairAnswer (IsSplitAnswer call)
split_answer_exists call a =
    let s = split_exists a.0 in
    (s.0, (a.1.0, record { value = a.0; is_value = a.1.1; is_split = s.1 }))

-- a wide call that has a result for each datum has one for each pair
pub wide_answer_exists : (call : Datum → Datum → ℕ → Type 0) → ((datum : Datum) → HasAnswer (call datum)) → (x : Pair)
    → HasPairAnswer (IsWideAnswer call x)
wide_answer_exists call c x =
    let j = joined_exists x in
    let a = split_answer_exists (call j.0) (c j.0) in
    (a.0, (a.1.0, record { joined = j.0; is_joined = j.1; is_answer = a.1.1 }))

-- a wide call that has a result for all operands has one for all pairs
pub wide_answer_of_two_exists : (call : Datum → Datum → Datum → ℕ → Type 0)
    → ((left right : Datum) → HasAnswer (call left right)) → (x y : Pair) → HasPairAnswer (IsWideAnswerOfTwo call x y)
wide_answer_of_two_exists call c x y =
    let j = joined_exists x in
    let k = joined_exists y in
    let a = split_answer_exists (call j.0 k.0) (c j.0 k.0) in
    (a.0, (a.1.0, record { left = j.0; right = k.0; left_is = j.1; right_is = k.1; is_answer = a.1.1 }))

-- each of the following operations on pairs has a result, since the wide operation has one
pub pair_quotient_exists : (mode : Round) (x y : Pair) → HasPairAnswer (IsPairQuotient mode x y)
pair_quotient_exists mode x y =
    wide_answer_of_two_exists (IsQuotient wide mode) (quotient_exists wide some_wide mode) x y

pub pair_truncated_remainder_exists : (x y : Pair) → HasPairAnswer (IsPairTruncatedRemainder x y)
pair_truncated_remainder_exists x y =
    wide_answer_of_two_exists (IsTruncatedRemainder wide) (remainder_exists wide some_wide truncated_quotient) x y

pub pair_nearest_remainder_exists : (x y : Pair) → HasPairAnswer (IsPairNearestRemainder x y)
pair_nearest_remainder_exists x y =
    wide_answer_of_two_exists (IsNearestRemainder wide) (remainder_exists wide some_wide nearest_quotient) x y

pub pair_round_to_integral_exists : (mode : Round) (x : Pair) → HasPairAnswer (IsPairRoundToIntegral mode x)
pair_round_to_integral_exists mode x =
    wide_answer_exists (IsRoundToIntegral wide mode) (round_to_integral_exists wide some_wide mode) x

pub pair_next_up_exists : (x : Pair) → HasPairAnswer (IsPairNextUp x)
pair_next_up_exists x = wide_answer_exists (IsNextUp wide) (next_up_exists wide some_wide) x

pub pair_next_down_exists : (x : Pair) → HasPairAnswer (IsPairNextDown x)
pair_next_down_exists x =
    let a = pair_next_up_exists (negated_pair x) in
    (negated_pair a.0, (a.1.0, record { up_of_negated = a.0; is_next_up = a.1.1; is = refl }))

pub pair_from_unsigned_exists : (mode : Round) (number : ℕ) → HasPairAnswer (IsPairFromUnsigned mode number)
pair_from_unsigned_exists mode number =
    split_answer_exists (IsFromUnsigned wide mode number)
    (delivered_exists wide mode false (number * 2 ^ wide.scale) 1 some_wide (lit< tt))

-- the conversion of a negative integer has a result
from_negative_exists : (mode : Round) (magnitude : ℕ) → HasPairAnswer (IsPairFromNegative mode magnitude)
from_negative_exists mode magnitude =
    let a = pair_from_unsigned_exists (swapped mode) magnitude in
    (negated_pair a.0, (a.1.0, record { positive = a.0; is_positive = a.1.1; is = refl }))

pub pair_from_signed_exists : (mode : Round) (number : ℤ) → HasPairAnswer (IsPairFromSigned mode number)
pair_from_signed_exists mode number =
    match_case HasPairAnswer (int_lt number (pos 0)) (IsPairFromNegative mode (unsigned_abs number))
    (IsPairFromUnsigned mode (unsigned_abs number))
    (from_negative_exists mode (unsigned_abs number)) (pair_from_unsigned_exists mode (unsigned_abs number))

-- ---- by parts

-- a pair has a scaling, since each part has
pub pair_scaling_exists : (mode : Round) (x : Pair) (power : ℤ) → (answer : Pair) × IsPairScaling mode x power answer
pair_scaling_exists mode x power =
    let a = scaling_exists double some_double mode x.high power in
    let b = scaling_exists double some_double mode x.low power in
    let p : Pair = record { high = a.0; low = b.0 } in
    (p, record { high_is = a.1; low_is = b.1 })

-- each pair is denormal or not, by the sum of its parts
denormal_by_parts_exists : (x : Pair) → (answer : Bool) × IsDenormalByParts x answer
denormal_by_parts_exists x =
    let s = sum_exists double some_double NearestTiesToEven x.high x.low in (
      is_denormal double x.high || not (is_equal x.high s.0),
      record {
        sum = s.0;
        status = s.1.0;
        is_sum = s.1.1;
        is = refl;
      },
    )

pub pair_denormal_exists : (x : Pair) → (answer : Bool) × IsDenormalPair x answer
pair_denormal_exists x =
    match_one (λ (R : Bool → Type 0). (answer : Bool) × R answer) (is_finite_non_zero x.high) (IsDenormalByParts x)
    (λ v. v ≡ false) (denormal_by_parts_exists x) (false, refl)
