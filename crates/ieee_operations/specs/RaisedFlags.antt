-- OVERFLOW and UNDERFLOW are raised only together with INEXACT, by each operation here that returns a status.
use Rattle.std.specs.Prelude.{ℕ, ℤ, pos}
use Rattle.apfloat_model.specs.{declared.kinds.Round.Round, formats.Format.Format, formats.Datum.Datum}
use Rattle.apfloat_model.specs.rounding.RaisedFlags.{FlagsGoTogether}
use Rattle.apfloat_model.specs.whole_numbers.WholeNumbersOut.{to_signed, to_unsigned}
use Rattle.apfloat_conversions.specs.Scalings.{IsScaled}
use Rattle.ieee_operations.specs.declared.extrema.Extremum.{Extremum}
use Rattle.ieee_operations.specs.declared.predicates.{Predicate.Predicate, OnNan.OnNan}
use Rattle.ieee_operations.specs.{Comparisons.IsComparison, TwoFormats.IsComparisonBetween, Extrema.IsExtremum}
use Rattle.ieee_operations.specs.{Extrema.IsExtremumNumber, Exponents.IsLogB, Exponents.IsIntegerLogB}
use Rattle.ieee_operations.specs.WholeNumbers.{IsRoundedToIntegral, IsConvertedToInteger, IsConvertedToIntegerExactly}

abbrev pub RaisesTogether : {A : Type 0} → (A → ℕ → Type 0) → Type 0
RaisesTogether {A} Says = (value : A) (status : ℕ) → Says value status → FlagsGoTogether status

pub record OperationFlagsGoTogether (f : Format) : Type 0 where
  pub comparison : (predicate : Predicate) (on_nan : OnNan) (x y : Datum)
      → RaisesTogether (IsComparison f predicate on_nan x y)
  pub comparison_between : (other : Format) (predicate : Predicate) (on_nan : OnNan) (x y : Datum)
      → RaisesTogether (IsComparisonBetween f other predicate on_nan x y)
  pub extremum : (which : Extremum) (x y : Datum) → RaisesTogether (IsExtremum f which x y)
  pub extremum_number : (which : Extremum) (x y : Datum) → RaisesTogether (IsExtremumNumber f which x y)
  pub logarithm : (mode : Round) (x : Datum) → RaisesTogether (IsLogB f mode x)
  pub integer_logarithm : (x : Datum) → RaisesTogether (IsIntegerLogB f x)
  pub scaled : (mode : Round) (x : Datum) (places : ℤ) → RaisesTogether (IsScaled f mode x places)
  pub integral : (mode : Round) (x : Datum) → RaisesTogether (IsRoundedToIntegral f mode x)
  pub converted : (mode : Round) (low high : ℤ) (x : Datum) → RaisesTogether (IsConvertedToInteger f mode low high x)
  pub signed_exactly : (mode : Round) (width : ℕ) (x : Datum)
      → RaisesTogether (IsConvertedToIntegerExactly (to_signed f mode width x))
  pub unsigned_exactly : (mode : Round) (width : ℕ) (x : Datum)
      → RaisesTogether (λ (number : ℕ) status.
      IsConvertedToIntegerExactly (to_unsigned f mode width x) (pos number) status)
