-- Quotients (IEEE 754-2019 5.4.1, 6.1, 6.3, 7.2, 7.3).
use Rattle.std.specs.Prelude.{ℕ, ◌*◌, ◌^◌, eqb, if◌then◌else◌}
use Rattle.apfloat_model.specs.{declared.kinds.Round.Round, formats.Format.Format}
use Rattle.apfloat_model.specs.formats.Datum.{Datum, finite, infinite, nan}
use Rattle.apfloat_model.specs.{formats.Constants.infinity_of, rounding.Rounding.signed_quanta}
use Rattle.apfloat_model.specs.rounding.Outcome.{Outcome, settled, rounded, exactly, invalid, of_nan, of_nans, Yields}
use Rattle.apfloat_model.specs.arithmetic.Exact.{product_sign}

-- the flag of a division by zero (7.3)
abbrev pub div_by_zero_bit : ℕ
div_by_zero_bit = 2

abbrev pub quotient : Format → Datum → Datum → Outcome
quotient f (nan b s) y = of_nans f b s y
quotient f x (nan c t) = of_nan f c t
quotient f (infinite b) (infinite c) = invalid f
quotient f (infinite b) (finite c n) = exactly (infinite (product_sign b c))
quotient f (finite b m) (infinite c) = exactly (signed_quanta f.nonfinite (product_sign b c) 0)
quotient f (finite b m) (finite c n) =
    if eqb n 0
    then (if eqb m 0 then invalid f else settled (infinity_of f (product_sign b c)) div_by_zero_bit)
    else rounded (product_sign b c) (m * 2 ^ f.scale) n

abbrev pub IsQuotient : Format → Round → Datum → Datum → Datum → ℕ → Type 0
IsQuotient f mode x y value status = Yields f mode (quotient f x y) value status
