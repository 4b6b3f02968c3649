-- The operands of the laws: doubles alone, and normalized pairs.
use Rattle.std.proofs.Common.{◌≡◌, ℕ, ◌+◌, ◌*◌, ◌≤◌, true, sym, ap, arith}
use Rattle.std.proofs.lemmas.Bool.{false≢true}
use Rattle.std.specs.Prelude.{pos, ◌+ℤ◌}
use Rattle.apfloat_model.specs.formats.{Datum.Datum, Datum.finite, Datum.infinite, Datum.nan, Members.IsMember}
use Rattle.apfloat_model.specs.order.Classes.{is_finite, quanta_of}
use Rattle.apfloat_model.specs.{order.Order.number, arithmetic.Exact.magnitude}
use Rattle.apfloat_model.proofs.arithmetic.Signs.{magnitude_signed}
use Rattle.apfloat_pair_theory.specs.{PairFormats.double, Pairs.Pair, Pairs.positive_zero, Pairs.IsNormalised}
use Rattle.apfloat_pair_theory.specs.PairAccuracy.{HasZeroLow}
use Rattle.apfloat_pair_theory.proofs.numbers.{Signed.IsGridNumber, Signed.on_grid_as, Nearest.IsNearest}
use Rattle.apfloat_pair_theory.proofs.sums.{PairRoundings.low_eighth, ClosingSums.is_ieee, ClosingSums.wide_enough}
use Rattle.apfloat_pair_theory.proofs.pairs.Normalised.{high_nearest}

-- ---- doubles

-- the magnitude of a finite datum is its number of quanta
pub magnitude_quanta : (datum : Datum) → is_finite datum ≡ true → magnitude (number datum) ≡ quanta_of datum
magnitude_quanta (finite b n) e = magnitude_signed b n
magnitude_quanta (infinite b) e = absurd (false≢true e)
magnitude_quanta (nan b n) e = absurd (false≢true e)

-- a finite double is on the grid
pub member_on_grid : (datum : Datum) → is_finite datum ≡ true → IsMember double datum
    → IsGridNumber double.precision (number datum)
member_on_grid (finite b n) e m = on_grid_as (sym (magnitude_signed b n)) m.on_grid
member_on_grid (infinite b) e m = absurd (false≢true e)
member_on_grid (nan b n) e m = absurd (false≢true e)

-- a finite double as the high part, and +0 as the low part
pub record IsDoubleAlone (x : Pair) : Type 0 where
  pub is_double : IsMember double x.high
  pub is_finite : is_finite x.high ≡ true
  pub low_is : x.low ≡ positive_zero

-- a double with low part +0 is a double alone
pub double_alone : (x : Pair) → IsMember double x.high → HasZeroLow x → IsDoubleAlone x
double_alone x m s = record { is_double = m; is_finite = s.is_finite; low_is = s.low_is }

-- the low part of a double alone has the number 0
pub single_low : (x : Pair) → IsDoubleAlone x → number x.low ≡ pos 0
single_low x s = ap number s.low_is

-- ---- normalized pairs

-- the high part of a normalized pair is nearest to the number of the pair
pub normalised_nearest : (x : Pair) → IsNormalised x
    → IsNearest double.precision (number x.high +ℤ number x.low) (number x.high)
normalised_nearest x n =
    high_nearest double x.high x.low n.nearest n.status is_ieee n.finite_high n.finite_low n.is_nearest n.same_number

-- if a summand is at most an eighth of a sum, it is at most a seventh of the other summand
seven_low : (h l : ℕ) → 8 * l ≤ h + l → 7 * l ≤ h
seven_low h l a = omega arith

-- the low part of a normalized pair is at most a seventh of its high part
pub normalised_low : (x : Pair) → IsNormalised x → 7 * magnitude (number x.low) ≤ magnitude (number x.high)
normalised_low x n =
    seven_low _ _ (low_eighth double.precision wide_enough (number x.high) (number x.low) (normalised_nearest x n))
