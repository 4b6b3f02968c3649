-- The classes of data (IEEE 754-2019 5.7.2), and tests on one datum.
use Rattle.std.specs.Prelude.{ℕ, ◌%◌, ◌^◌, Bool, true, false, ◌&&◌, ltb, leb, eqb, if◌then◌else◌}
use Rattle.apfloat_model.specs.declared.kinds.Category.{Category}
use Rattle.apfloat_model.specs.declared.kinds.Category.TheVariants.{Infinity, NaN, Normal, Zero}
use Rattle.apfloat_model.specs.formats.Format.{Format, smallest_normalized, largest}
use Rattle.apfloat_model.specs.formats.Datum.{Datum, finite, infinite, nan}
use Rattle.apfloat_model.specs.arithmetic.Exact.{same_sign}

abbrev pub is_negative : Datum → Bool
is_negative (finite b n) = b
is_negative (infinite b) = b
is_negative (nan b s) = b

abbrev pub is_finite : Datum → Bool
is_finite (finite b n) = true
is_finite (infinite b) = false
is_finite (nan b s) = false

abbrev pub is_infinite : Datum → Bool
is_infinite (finite b n) = false
is_infinite (infinite b) = true
is_infinite (nan b s) = false

abbrev pub is_nan : Datum → Bool
is_nan (finite b n) = false
is_nan (infinite b) = false
is_nan (nan b s) = true

-- the quanta of a finite datum
abbrev pub quanta_of : Datum → ℕ
quanta_of (finite b n) = n
quanta_of (infinite b) = 0
quanta_of (nan b s) = 0

abbrev pub is_zero : Datum → Bool
is_zero x = is_finite x && eqb (quanta_of x) 0

abbrev pub is_finite_non_zero : Datum → Bool
is_finite_non_zero x = is_finite x && ltb 0 (quanta_of x)

-- finite, nonzero, and below the smallest number with all digits
abbrev pub is_denormal : Format → Datum → Bool
is_denormal f x = is_finite_non_zero x && ltb (quanta_of x) (smallest_normalized f)

abbrev pub is_normal : Format → Datum → Bool
is_normal f x = is_finite x && leb (smallest_normalized f) (quanta_of x)

abbrev pub is_smallest : Datum → Bool
is_smallest x = is_finite x && eqb (quanta_of x) 1

abbrev pub is_smallest_normalized : Format → Datum → Bool
is_smallest_normalized f x = is_finite x && eqb (quanta_of x) (smallest_normalized f)

abbrev pub is_largest : Format → Datum → Bool
is_largest f x = is_finite x && eqb (quanta_of x) (largest f)

abbrev pub is_integer : Format → Datum → Bool
is_integer f x = is_finite x && eqb (quanta_of x % 2 ^ f.scale) 0

-- the same class and sign, and the same number or significand
abbrev pub same_datum : Datum → Datum → Bool
same_datum (finite b m) (finite c n) = same_sign b c && eqb m n
same_datum (infinite b) (infinite c) = same_sign b c
same_datum (nan b s) (nan c t) = same_sign b c && eqb s t
same_datum x y = false

-- the category of a datum
abbrev pub category_of : Datum → Category
category_of (finite b n) = if eqb n 0 then Zero else Normal
category_of (infinite b) = Infinity
category_of (nan b s) = NaN

-- finite and nonzero
abbrev pub is_finite_non_zero_category : Category → Bool
is_finite_non_zero_category Normal = true
is_finite_non_zero_category Zero = false
is_finite_non_zero_category Infinity = false
is_finite_non_zero_category NaN = false

abbrev pub is_nan_category : Category → Bool
is_nan_category Infinity = false
is_nan_category NaN = true
is_nan_category Normal = false
is_nan_category Zero = false
