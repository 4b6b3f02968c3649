-- Comparisons of a datum of one format with a datum of another (IEEE 754-2019 5.6.1, 5.11): of their exact values.
use Rattle.std.specs.Prelude.{◌≡◌, ℕ, ◌*◌, ◌^◌, Bool, ◌||◌, Option}
use Rattle.std.specs.declared.cmp.Ordering.{Ordering}
use Rattle.apfloat_model.specs.{declared.status.StatusAnd.StatusAnd, rounding.Flags.Gives, formats.Format.Format}
use Rattle.apfloat_model.specs.{formats.Nan.is_signaling_nan, order.Classes.is_nan, order.Order.compared}
use Rattle.apfloat_model.specs.formats.{Datum.Datum, Datum.finite, Datum.infinite, Datum.nan, Nan.invalid_if}
use Rattle.ieee_operations.specs.{Relations.has, Predicates.relations_of, declared.predicates.Predicate.Predicate}
use Rattle.ieee_operations.specs.declared.predicates.{OnNan.OnNan, OnNan.TheVariants.Quiet, OnNan.TheVariants.Signaling}

-- a datum counted in a unit that divides its quantum and the quantum of the other format
abbrev pub in_common_unit : Format → Datum → Datum
in_common_unit other (finite b n) = finite b (n * 2 ^ other.scale)
in_common_unit other (infinite b) = infinite b
in_common_unit other (nan b s) = nan b s

-- the relation between a datum of f and a datum of g
abbrev pub compared_between : Format → Format → Datum → Datum → Option Ordering
compared_between f g x y = compared (in_common_unit g x) (in_common_unit f y)

-- whether the comparison is an invalid operation (7.2)
abbrev pub is_invalid_between : Format → Format → OnNan → Datum → Datum → Bool
is_invalid_between f g Quiet x y = is_signaling_nan f x || is_signaling_nan g y
is_invalid_between f g Signaling x y = is_nan x || is_nan y

-- whether the relation satisfies the predicate, with no flag but that of an invalid operation
pub record IsComparisonBetween (f g : Format) (predicate : Predicate) (on_nan : OnNan) (x y : Datum) (value : Bool)
    (status : ℕ) : Type 0 where
  pub value_is : value ≡ has (relations_of predicate) (compared_between f g x y)
  pub status_is : status ≡ invalid_if (is_invalid_between f g on_nan x y)

-- such a comparison has one answer
abbrev pub IsComparedBetweenOnce : Type 0
IsComparedBetweenOnce =
    (f g : Format) (predicate : Predicate) (on_nan : OnNan) (x y : Datum) (answer other : StatusAnd Bool)
    → Gives (IsComparisonBetween f g predicate on_nan x y) answer
    → Gives (IsComparisonBetween f g predicate on_nan x y) other → answer ≡ other

-- in one format it is the comparison of that format
abbrev pub IsOrderOfOneFormat : Type 0
IsOrderOfOneFormat = (f : Format) (x y : Datum) → compared_between f f x y ≡ compared x y
