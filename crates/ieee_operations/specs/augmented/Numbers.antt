-- Finite data by their numbers.
use Rattle.std.specs.Prelude.{◌≡◌, ℕ, ◌+◌, ◌<◌, ◌≤◌, true, ℤ, pos, ◌-ℤ◌, if◌then◌else◌}
use Rattle.apfloat_model.specs.{rounding.Rounding.inexact_bit, arithmetic.Exact.magnitude}
use Rattle.apfloat_model.specs.declared.kinds.Round.{Round, TheVariants.NearestTiesToEven}
use Rattle.apfloat_model.specs.formats.{Format.Format, Format.largest, Constants.zero_datum, Datum.Datum}
use Rattle.apfloat_model.specs.rounding.{Grid.IsOnGrid, Negation.negated, Rounding.ok_bits, Rounding.underflow_bit}
use Rattle.apfloat_model.specs.arithmetic.{FusedSums.IsFusedSum, Products.IsProduct, Scaling.IsScaling, Signs.copy_sign}
use Rattle.apfloat_model.specs.order.{Classes.is_finite, Classes.is_zero, Order.number}

-- a finite datum of exactly that number
pub record HasNumber (exact : ℤ) (value : Datum) : Type 0 where
  pub is_finite : is_finite value ≡ true
  pub number_is : number value ≡ exact

-- a finite datum of the format
pub record IsAugmentedNumber (f : Format) (x : Datum) : Type 0 where
  pub is_finite : is_finite x ≡ true
  pub on_grid : IsOnGrid f.precision (magnitude (number x))
  pub within : magnitude (number x) ≤ largest f

-- a finite datum of the format other than zero
pub record IsNonzeroIn (f : Format) (x : Datum) : Type 0 where
  pub is_in : IsAugmentedNumber f x
  pub some : 0 < magnitude (number x)

-- two numbers other than zero, and their product to nearest
pub record IsNearProduct (f : Format) (x y near : Datum) : Type 0 where
  pub left : IsNonzeroIn f x
  pub right : IsNonzeroIn f y
  pub status : ℕ
  pub is : IsProduct f NearestTiesToEven x y near status

-- what a head leaves of a product is not exact
pub record LeavesDigits (f : Format) (x y head : Datum) : Type 0 where
  pub rest : Datum
  pub status : ℕ
  pub is : IsFusedSum f NearestTiesToEven x y (negated f.nonfinite head) rest status
  pub not_ok : status ≡ ok_bits → ⊥

-- a head, and what it leaves of a product, rounded where that has digits below the quantum
pub record HasRoundedTail (f : Format) (round : Round) (x y given head tail : Datum) (status : ℕ) : Type 0 where
  pub head_is : head ≡ given
  pub tail_status : ℕ
  pub tail_is : IsFusedSum f round x y (negated f.nonfinite given) tail tail_status
  pub status_is : status ≡ underflow_bit + inexact_bit

-- what a head leaves of a product, times two, rounded
pub record IsTwiceLeft (f : Format) (x y head value : Datum) (status : ℕ) : Type 0 where
  pub double : Datum
  pub double_head : Datum
  pub is_double : IsScaling f NearestTiesToEven x (pos 1) double
  pub is_double_head : IsScaling f NearestTiesToEven head (pos 1) double_head
  pub is_left : IsFusedSum f NearestTiesToEven double y (negated f.nonfinite double_head) value status

-- no number with a magnitude on the grid is nearer to `exact` than z
pub record IsNearestTo (precision : ℕ) (exact z : ℤ) : Type 0 where
  pub on_grid : IsOnGrid precision (magnitude z)
  pub nearest : (other : ℤ) → IsOnGrid precision (magnitude other) → magnitude (z -ℤ exact) ≤ magnitude (other -ℤ exact)

-- what a head leaves, with the sign of the head if it is zero
abbrev pub with_sign : Format → Datum → Datum → Datum
with_sign f head rest = if is_zero rest then copy_sign f zero_datum head else rest
