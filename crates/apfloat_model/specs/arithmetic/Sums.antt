-- Sums and differences (IEEE 754-2019 5.4.1, 6.1, 6.3).
use Rattle.std.specs.Prelude.{◌≡◌, ℕ, ◌*◌, ◌<◌, ◌≤◌, Bool, false, ℤ, pos, ◌+ℤ◌, ◌-ℤ◌, ◌≤ℤ◌, if◌then◌else◌, IsTrue}
use Rattle.apfloat_model.specs.declared.kinds.{Round.Round, NonfiniteBehavior.TheVariants.IEEE754}
use Rattle.apfloat_model.specs.formats.{Format.Format, Datum.Datum, Datum.finite, Datum.infinite, Datum.nan}
use Rattle.apfloat_model.specs.rounding.{Rounding.ok_bits, Negation.negated}
use Rattle.apfloat_model.specs.rounding.Outcome.{Outcome, exactly, invalid, of_nan, of_nans, totalled, Yields}
use Rattle.apfloat_model.specs.arithmetic.Exact.{same_sign, signed}
pub use Rattle.apfloat_model.specs.arithmetic.Exact.{is_toward_negative, zero_sum_sign}
use Rattle.apfloat_model.specs.order.{Classes.is_finite, Order.number, Order.AtMost}

abbrev pub sum : Format → Datum → Datum → Outcome
sum f (nan b s) y = of_nans f b s y
sum f x (nan c t) = of_nan f c t
sum f (infinite b) (infinite c) = if same_sign b c then exactly (infinite b) else invalid f
sum f (infinite b) (finite c n) = exactly (infinite b)
sum f (finite b m) (infinite c) = exactly (infinite c)
sum f (finite b m) (finite c n) = totalled b c (signed b m +ℤ signed c n) 1

abbrev pub IsSum : Format → Round → Datum → Datum → Datum → ℕ → Type 0
IsSum f mode x y value status = Yields f mode (sum f x y) value status

-- a NaN is not negated
abbrev pub difference : Format → Datum → Datum → Outcome
difference f (nan b s) y = of_nans f b s y
difference f x (nan c t) = of_nan f c t
difference f x y = sum f x (negated f.nonfinite y)

abbrev pub IsDifference : Format → Round → Datum → Datum → Datum → ℕ → Type 0
IsDifference f mode x y value status = Yields f mode (difference f x y) value status

-- ---- two laws

-- a finite value of exactly `exact` quanta, with no flag
pub record IsExactly (exact : ℤ) (value : Datum) (status : ℕ) : Type 0 where
  pub negative : Bool
  pub quanta : ℕ
  pub value_is : value ≡ finite negative quanta
  pub number_is : signed negative quanta ≡ exact
  pub status_is : status ≡ ok_bits

-- The difference of two positive numbers is exact if neither is more than twice the other.
abbrev pub IsNearby : Datum → Datum → Datum → ℕ → Type 0
IsNearby x y value status =
    (m n : ℕ) → x ≡ finite false m → y ≡ finite false n → 0 < m → 0 < n → m ≤ 2 * n → n ≤ 2 * m
    → IsExactly (pos m -ℤ pos n) value status

-- In a format with infinities, a sum of numbers does not decrease as one of them increases: the value of x + z is at
-- most that of y + z, for each number y that is at least x.
abbrev pub IsMonotone : Format → Round → Datum → Datum → Datum → Type 0
IsMonotone f mode x z value =
    f.nonfinite ≡ IEEE754 → IsTrue (is_finite x) → IsTrue (is_finite z) → (y greater : Datum) (status : ℕ)
    → IsTrue (is_finite y) → number x ≤ℤ number y
    → IsSum f mode y z greater status → AtMost value greater
