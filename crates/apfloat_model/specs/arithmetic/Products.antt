-- Products (IEEE 754-2019 5.4.1, 6.1, 6.3, 7.2).
use Rattle.std.specs.Prelude.{ℕ, ◌*◌, ◌^◌, eqb, if◌then◌else◌, IsTrue}
use Rattle.apfloat_model.specs.{declared.kinds.Round.Round, formats.Format.Format}
use Rattle.apfloat_model.specs.formats.Datum.{Datum, finite, infinite, nan}
use Rattle.apfloat_model.specs.rounding.Outcome.{Outcome, rounded, exactly, invalid, of_nan, of_nans, Yields}
use Rattle.apfloat_model.specs.rounding.Negation.{swapped, negated}
use Rattle.apfloat_model.specs.{arithmetic.Exact.product_sign, order.Classes.is_finite_non_zero}

-- the greatest precision of a format that has `mul_r`: the exact product fits in 128 bits
abbrev pub product_limit : ℕ
product_limit = 64

abbrev pub product : Format → Datum → Datum → Outcome
product f (nan b s) y = of_nans f b s y
product f x (nan c t) = of_nan f c t
product f (finite b m) (infinite c) = if eqb m 0 then invalid f else exactly (infinite (product_sign b c))
product f (infinite b) (finite c n) = if eqb n 0 then invalid f else exactly (infinite (product_sign b c))
product f (infinite b) (infinite c) = exactly (infinite (product_sign b c))
product f (finite b m) (finite c n) = rounded (product_sign b c) (m * n) (2 ^ f.scale)

abbrev pub IsProduct : Format → Round → Datum → Datum → Datum → ℕ → Type 0
IsProduct f mode x y value status = Yields f mode (product f x y) value status

-- The product of nonzero finite factors with one factor negated, rounded in the opposite mode, is the negated value,
-- with the same flags.
abbrev pub IsOpposite : Format → Round → Datum → Datum → Datum → ℕ → Type 0
IsOpposite f mode x y value status =
    IsTrue (is_finite_non_zero x) → IsTrue (is_finite_non_zero y)
    → IsProduct f (swapped mode) (negated f.nonfinite x) y (negated f.nonfinite value) status
