-- The order of data (IEEE 754-2019 5.6.1, 5.11), and minima and maxima (754-2008 5.3.1; 754-2019 9.6).
use Rattle.std.specs.Prelude.{ℕ, Bool, ◌&&◌, ℤ, pos, Option, Some, None, if◌then◌else◌, ◌≡◌, ◌⊎◌, true, false, ◌≤ℤ◌}
use Rattle.std.specs.declared.cmp.Ordering.{Ordering}
use Rattle.std.specs.Ordering.{nat_cmp, int_cmp, ordering_then, is_some_and, is_lt, is_eq}
use Rattle.apfloat_model.specs.formats.Datum.{Datum, finite, infinite, nan}
use Rattle.apfloat_model.specs.{arithmetic.Exact.signed, declared.kinds.Category.TheVariants.Normal}
use Rattle.apfloat_model.specs.order.Classes.{category_of, is_nan, is_zero, is_negative, quanta_of}

-- whether a datum is below the numbers, among them, or above them
abbrev pub level : Datum → ℕ
level (infinite b) = if b then 0 else 2
level (finite b n) = 1
level (nan b s) = 1

abbrev pub number : Datum → ℤ
number (finite b n) = signed b n
number (infinite b) = pos 0
number (nan b s) = pos 0

-- numbers by their values, infinities at the ends; a NaN is unordered
abbrev pub compared : Datum → Datum → Option Ordering
compared (nan b s) y = None
compared x (nan c t) = None
compared x y = Some (ordering_then (nat_cmp (level x) (level y)) (int_cmp (number x) (number y)))

abbrev pub is_below : Datum → Datum → Bool
is_below x y = is_some_and is_lt (compared x y)

abbrev pub is_equal : Datum → Datum → Bool
is_equal x y = is_some_and is_eq (compared x y)

-- the first datum is not above the second, if neither is a NaN
abbrev pub AtMost : Datum → Datum → Type 0
AtMost (finite b m) (finite c n) = signed b m ≤ℤ signed c n
AtMost (finite b m) (infinite c) = c ≡ false
AtMost (infinite b) (finite c n) = b ≡ true
AtMost (infinite b) (infinite c) = (b ≡ true) ⊎ (c ≡ false)
AtMost (nan b s) y = ⊥
AtMost x (nan c t) = ⊥

-- both are finite and nonzero
pub record AreFiniteNonZero (x y : Datum) : Type 0 where
  pub left : category_of x ≡ Normal
  pub right : category_of y ≡ Normal

-- the order of the magnitudes of two nonzero finite data
abbrev pub compared_magnitudes : Datum → Datum → Ordering
compared_magnitudes x y = nat_cmp (quanta_of x) (quanta_of y)

-- if one operand is a NaN, the other is returned
abbrev pub min_num : Datum → Datum → Datum
min_num x y = if is_nan x then y else (if is_nan y then x else (if is_below y x then y else x))

abbrev pub max_num : Datum → Datum → Datum
max_num x y = if is_nan x then y else (if is_nan y then x else (if is_below x y then y else x))

abbrev pub are_zeros : Datum → Datum → Bool
are_zeros x y = is_zero x && is_zero y

-- a NaN is unchanged, and -0 is below +0
abbrev pub minimum : Datum → Datum → Datum
minimum x y =
    if is_nan x then x
    else (if is_nan y then y else (if are_zeros x y then (if is_negative x then x else y) else min_num x y))

abbrev pub maximum : Datum → Datum → Datum
maximum x y =
    if is_nan x then x
    else (if is_nan y then y else (if are_zeros x y then (if is_negative x then y else x) else max_num x y))
