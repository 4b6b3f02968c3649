-- Comparisons of two data of one format (IEEE 754-2019 5.6.1, 5.11).
use Rattle.std.specs.Prelude.{◌≡◌, ℕ, Bool, ◌||◌}
use Rattle.apfloat_model.specs.{declared.status.StatusAnd.StatusAnd, rounding.Flags.Gives}
use Rattle.apfloat_model.specs.formats.{Format.Format, Datum.Datum, Nan.invalid_if, Nan.is_signaling_nan}
use Rattle.apfloat_model.specs.order.{Classes.is_nan, Order.compared}
use Rattle.ieee_operations.specs.{Relations.has, Predicates.relations_of, declared.predicates.Predicate.Predicate}
use Rattle.ieee_operations.specs.declared.predicates.{OnNan.OnNan, OnNan.TheVariants.Quiet, OnNan.TheVariants.Signaling}

-- whether the comparison is an invalid operation (7.2)
abbrev pub is_invalid : Format → OnNan → Datum → Datum → Bool
is_invalid f Quiet x y = is_signaling_nan f x || is_signaling_nan f y
is_invalid f Signaling x y = is_nan x || is_nan y

-- whether the relation between the data satisfies the predicate, with no flag but that of an invalid operation
pub record IsComparison (f : Format) (predicate : Predicate) (on_nan : OnNan) (x y : Datum) (value : Bool)
    (status : ℕ) : Type 0 where
  pub value_is : value ≡ has (relations_of predicate) (compared x y)
  pub status_is : status ≡ invalid_if (is_invalid f on_nan x y)

-- a comparison has one answer
abbrev pub IsComparedOnce : Type 0
IsComparedOnce =
    (f : Format) (predicate : Predicate) (on_nan : OnNan) (x y : Datum) (answer other : StatusAnd Bool)
    → Gives (IsComparison f predicate on_nan x y) answer → Gives (IsComparison f predicate on_nan x y) other
    → answer ≡ other
