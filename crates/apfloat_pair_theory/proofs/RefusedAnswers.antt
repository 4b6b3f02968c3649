-- The laws reject results that were computed with a step left out.
use Rattle.std.proofs.Common.{◌≡◌, ◌+◌, ◌^◌, false, true, refl, sym, ap, subst, eqb, lit≤, lit<}
use Rattle.std.proofs.lemmas.Bool.{false≢true, le-leb}
use Rattle.std.specs.Prelude.{ℤ, pos, neg_ℤ}
use Rattle.apfloat_model.specs.{declared.kinds.Round.TheVariants.NearestTiesToEven, formats.Datum.Datum}
use Rattle.apfloat_model.specs.{formats.Datum.finite, arithmetic.Exact.magnitude, arithmetic.Sums.IsSum}
use Rattle.apfloat_model.specs.{order.Order.is_equal, rounding.Rounding.ok_bits, rounding.Rounding.inexact_bit}
use Rattle.apfloat_model.proofs.{Once.sum_once, rows.RowsIn.rounded}
use Rattle.apfloat_pair_theory.specs.{PairFormats.double, Pairs.IsNormalised}
use Rattle.apfloat_pair_theory.specs.PairAccuracy.{HaveExponents, IsErrorFreeSum, IsAccurateSum, IsAccurateProduct}
use Rattle.apfloat_pair_theory.specs.WrongAnswers.{one, least, half_unit, one_and_half_unit, one_and_quarter_unit}
use Rattle.apfloat_pair_theory.specs.WrongAnswers.{before_closing}
use Rattle.apfloat_pair_theory.proofs.{pairs.Normalised.normalised_by, products.ProductRanges.have_exponents}

-- 1 is not an error-free sum of 1 and the least double
pub dropped_error : IsErrorFreeSum one least one → ⊥
dropped_error law =
    let e = law (record { is_finite = refl; low_is = refl }) (record { is_finite = refl; low_is = refl })
    (record { first = lit≤ tt; second = lit≤ tt }) in
    false≢true (sym (ap (λ (n : ℤ). eqb (magnitude n) (2 ^ 1074)) e.number_is))

-- the operands are normalized
one_normalised : IsNormalised one
one_normalised = normalised_by one ok_bits refl refl (rounded (2 ^ 52) 1022 refl refl refl)

half_unit_normalised : IsNormalised half_unit
half_unit_normalised = normalised_by half_unit ok_bits refl refl (rounded (2 ^ 52) 969 refl refl refl)

one_and_half_unit_normalised : IsNormalised one_and_half_unit
one_and_half_unit_normalised =
    normalised_by one_and_half_unit inexact_bit refl refl (rounded (2 ^ 52) 1022 refl refl refl)

one_and_quarter_unit_normalised : IsNormalised one_and_quarter_unit
one_and_quarter_unit_normalised =
    normalised_by one_and_quarter_unit inexact_bit refl refl (rounded (2 ^ 52) 1022 refl refl refl)

-- the parts before the closing step add up to a double
sum_is_double : IsSum double NearestTiesToEven (finite false (2 ^ 1074)) (finite false (2 ^ 1022))
    (finite false (2 ^ 1074 + 2 ^ 1022)) ok_bits
sum_is_double = rounded (2 ^ 52 + 1) 1022 refl refl refl

-- the parts before the closing step are not a normalized pair
not_normalised : IsNormalised before_closing → ⊥
not_normalised n =
    let only = sum_once double NearestTiesToEven (finite false (2 ^ 1074)) (finite false (2 ^ 1022)) n.nearest
    (finite false (2 ^ 1074 + 2 ^ 1022)) n.status ok_bits n.is_nearest sum_is_double in
    false≢true (subst (λ (d : Datum). is_equal (finite false (2 ^ 1074)) d ≡ true) only.0 n.same_number)

-- the parts before the closing step are not an accurate sum of 1 + 2 ^ -53 and 2 ^ -53
pub skipped_closing_step : IsAccurateSum one_and_half_unit half_unit before_closing → ⊥
skipped_closing_step law =
    let a = law one_and_half_unit_normalised half_unit_normalised (record { first = lit≤ tt; second = lit≤ tt }) in
    not_normalised a.normalised

-- the exponents of 1 + 2 ^ -54 and of 1 are 0
exponents : HaveExponents one_and_quarter_unit one (neg_ℤ (pos 900)) (pos 1021)
exponents =
    have_exponents one_and_quarter_unit one 0 0 900 1021 refl refl
    (record { place = 1074; low = lit≤ tt; high = lit< tt; is = refl })
    (record { place = 1074; low = lit≤ tt; high = lit< tt; is = refl }) (lit≤ tt)

-- 1 is not an accurate product of 1 + 2 ^ -54 and 1
pub dropped_cross_term : IsAccurateProduct one_and_quarter_unit one one → ⊥
dropped_cross_term law = false≢true (le-leb _ _ (law one_and_quarter_unit_normalised one_normalised exponents).error)
