-- Augmented sums, differences and products (IEEE 754-2019 9.5): the exact result, rounded to nearest with ties toward
-- zero, and what that leaves of it.
use Rattle.std.specs.Prelude.{◌≡◌, ℕ, ◌+◌, ◌*◌, ◌^◌, ◌≤◌, ◌⊎◌, ltb, eqb, Bool, true}
use Rattle.std.specs.Prelude.{ℤ, pos, ◌+ℤ◌, ◌-ℤ◌, ◌*ℤ◌, if◌then◌else◌}
use Rattle.std.specs.Bool.{MatchBool}
use Rattle.apfloat_model.specs.{declared.kinds.Round.TheVariants.NearestTiesToEven, formats.Format.Format}
use Rattle.apfloat_model.specs.formats.{Format.largest, Format.nan_base, Datum.Datum, Datum.finite, Members.IsMember}
use Rattle.apfloat_model.specs.rounding.Rounding.{ok_bits, overflow_bit, underflow_bit, inexact_bit, past_largest}
use Rattle.apfloat_model.specs.rounding.{Rounding.signed_quanta, RaisedFlags.FlagsGoTogether, Negation.negated}
use Rattle.apfloat_model.specs.arithmetic.Exact.{signed, sign_of, magnitude, product_sign}
use Rattle.apfloat_model.specs.arithmetic.{Sums.IsSum, Sums.IsDifference, Sums.zero_sum_sign, Products.IsProduct}
use Rattle.apfloat_model.specs.order.{Classes.is_finite, Order.number}
use Rattle.ieee_operations.specs.augmented.TiesToZero.{IsTiesToZeroPick}

-- what a head of `pick` quanta with that sign leaves of exact / parts quanta, in parts of a quantum
abbrev pub left_of : ℤ → ℕ → Bool → ℕ → ℤ
left_of exact parts negative pick = exact -ℤ signed negative (pick * parts)

-- a head past the largest value: both results are the value in its place
pub record IsPastLargest (f : Format) (negative : Bool) (head tail : Datum) (status : ℕ) : Type 0 where
  pub head_is : head ≡ past_largest f.nonfinite (nan_base f) negative
  pub tail_is : tail ≡ head
  pub status_is : status ≡ overflow_bit + inexact_bit

-- The tail is what the head leaves, rounded in the same way where it is not an integral number of quanta. A tail of
-- exactly zero has the sign of the head. Only the tail raises flags: a tail that is not exact is tiny (7.5).
pub record IsWithTail (f : Format) (negative : Bool) (exact : ℤ) (parts pick : ℕ) (head tail : Datum) (status : ℕ)
    : Type 0 where
  pub head_is : head ≡ signed_quanta f.nonfinite negative pick
  pub quanta : ℕ
  pub is_pick : IsTiesToZeroPick f.precision (magnitude (left_of exact parts negative pick)) parts quanta
  pub tail_is : tail ≡ signed_quanta f.nonfinite (sign_of negative (left_of exact parts negative pick)) quanta
  pub status_is : status
      ≡ (if eqb (quanta * parts) (magnitude (left_of exact parts negative pick)) then ok_bits
      else underflow_bit + inexact_bit)

-- The exact result is exact / parts quanta, and `of_zero` is its sign if it is zero. A sum has one part, so its tail is
-- exact (`IsExactSum`).
pub record IsAugmented (f : Format) (of_zero : Bool) (exact : ℤ) (parts : ℕ) (head tail : Datum) (status : ℕ)
    : Type 0 where
  pub pick : ℕ
  pub is_pick : IsTiesToZeroPick f.precision (magnitude exact) parts pick
  pub is : MatchBool (ltb (largest f) pick)
      (IsPastLargest f (sign_of of_zero exact) head tail status)
      (IsWithTail f (sign_of of_zero exact) exact parts pick head tail status)

-- an operand that is not finite: both results are the result of the operation itself
pub record AreBoth (Says : Datum → ℕ → Type 0) (head tail : Datum) (status : ℕ) : Type 0 where
  pub is : Says head status
  pub tail_is : tail ≡ head

abbrev pub IsAugmentedSum : Format → Datum → Datum → Datum → Datum → ℕ → Type 0
IsAugmentedSum f (finite b m) (finite c n) head tail status =
    IsAugmented f (zero_sum_sign NearestTiesToEven b c) (signed b m +ℤ signed c n) 1 head tail status
IsAugmentedSum f x y head tail status = AreBoth (IsSum f NearestTiesToEven x y) head tail status

-- a NaN is not negated
abbrev pub IsAugmentedDifference : Format → Datum → Datum → Datum → Datum → ℕ → Type 0
IsAugmentedDifference f (finite b m) (finite c n) head tail status =
    IsAugmentedSum f (finite b m) (negated f.nonfinite (finite c n)) head tail status
IsAugmentedDifference f x y head tail status = AreBoth (IsDifference f NearestTiesToEven x y) head tail status

-- The product of two numbers of quanta is that many parts of a quantum, of which a quantum has 2 ^ scale.
abbrev pub IsAugmentedProduct : Format → Datum → Datum → Datum → Datum → ℕ → Type 0
IsAugmentedProduct f (finite b m) (finite c n) head tail status =
    IsAugmented f (product_sign b c) (signed (product_sign b c) (m * n)) (2 ^ f.scale) head tail status
IsAugmentedProduct f x y head tail status = AreBoth (IsProduct f NearestTiesToEven x y) head tail status

-- ---- theorems

-- the head and the tail together are exactly that number, with no flag
pub record AreExactly (exact : ℤ) (head tail : Datum) (status : ℕ) : Type 0 where
  pub head_is_finite : is_finite head ≡ true
  pub tail_is_finite : is_finite tail ≡ true
  pub sum_is : (number head +ℤ number tail) ≡ exact
  pub status_is : status ≡ ok_bits

-- an augmented sum of finite data is exact, or the head is past the largest value
abbrev pub IsExactSum : Type 0
IsExactSum =
    (f : Format) → 3 ≤ f.precision → (x y head tail : Datum) (status : ℕ) → IsMember f x → IsMember f y
    → is_finite x ≡ true → is_finite y ≡ true → IsAugmentedSum f x y head tail status
    → AreExactly (number x +ℤ number y) head tail status ⊎ ((negative : Bool)
    × IsPastLargest f negative head tail status)

-- an augmented product that is an integral number of quanta is exact, or the head is past the largest value
abbrev pub IsExactProduct : Type 0
IsExactProduct =
    (f : Format) → 3 ≤ f.precision → (x y head tail : Datum) (status : ℕ) (whole : ℤ) → IsMember f x → IsMember f y
    → is_finite x ≡ true → is_finite y ≡ true → (whole *ℤ pos (2 ^ f.scale)) ≡ (number x *ℤ number y)
    → IsAugmentedProduct f x y head tail status
    → AreExactly whole head tail status ⊎ ((negative : Bool) × IsPastLargest f negative head tail status)

-- an augmented sum, an augmented difference and an augmented product have one answer
abbrev pub HasOneAugmented : (Format → Datum → Datum → Datum → Datum → ℕ → Type 0) → Type 0
HasOneAugmented Says =
    (f : Format) (x y head other_head tail other_tail : Datum) (status other_status : ℕ)
    → Says f x y head tail status → Says f x y other_head other_tail other_status
    → (head ≡ other_head) × (tail ≡ other_tail) × (status ≡ other_status)

-- OVERFLOW and UNDERFLOW are raised only together with INEXACT
abbrev pub RaisesTogether : (Format → Datum → Datum → Datum → Datum → ℕ → Type 0) → Type 0
RaisesTogether Says =
    (f : Format) (x y head tail : Datum) (status : ℕ) → Says f x y head tail status → FlagsGoTogether status
