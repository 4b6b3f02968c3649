-- Whether an operation on operands that are not NaNs is invalid (IEEE 754-2019 7.2).
use Rattle.std.specs.Prelude.{Bool, true, false, not, ◌&&◌, ◌||◌, eqb}
use Rattle.apfloat_model.specs.formats.Datum.{Datum, finite, infinite, nan}
use Rattle.apfloat_model.specs.arithmetic.Exact.{same_sign, product_sign}
use Rattle.apfloat_model.specs.order.Classes.{is_infinite, is_negative}

-- the sum of opposite infinities
abbrev pub is_invalid_sum : Datum → Datum → Bool
is_invalid_sum (infinite b) (infinite c) = not (same_sign b c)
is_invalid_sum (infinite b) (finite c n) = false
is_invalid_sum (infinite b) (nan c t) = false
is_invalid_sum (finite b m) y = false
is_invalid_sum (nan b s) y = false

abbrev pub is_invalid_difference : Datum → Datum → Bool
is_invalid_difference (infinite b) (infinite c) = not (same_sign b (not c))
is_invalid_difference (infinite b) (finite c n) = false
is_invalid_difference (infinite b) (nan c t) = false
is_invalid_difference (finite b m) y = false
is_invalid_difference (nan b s) y = false

-- a zero times an infinity
abbrev pub is_invalid_product : Datum → Datum → Bool
is_invalid_product (finite b m) (infinite c) = eqb m 0
is_invalid_product (infinite b) (finite c n) = eqb n 0
is_invalid_product (finite b m) (finite c n) = false
is_invalid_product (finite b m) (nan c t) = false
is_invalid_product (infinite b) (infinite c) = false
is_invalid_product (infinite b) (nan c t) = false
is_invalid_product (nan b s) y = false

-- a zero over a zero, or an infinity over an infinity
abbrev pub is_invalid_quotient : Datum → Datum → Bool
is_invalid_quotient (finite b m) (finite c n) = eqb n 0 && eqb m 0
is_invalid_quotient (infinite b) (infinite c) = true
is_invalid_quotient (finite b m) (infinite c) = false
is_invalid_quotient (finite b m) (nan c t) = false
is_invalid_quotient (infinite b) (finite c n) = false
is_invalid_quotient (infinite b) (nan c t) = false
is_invalid_quotient (nan b s) y = false

-- the remainder of an infinity, or by a zero
abbrev pub is_invalid_remainder : Datum → Datum → Bool
is_invalid_remainder (infinite b) y = true
is_invalid_remainder (finite b m) (finite c n) = eqb n 0
is_invalid_remainder (finite b m) (infinite c) = false
is_invalid_remainder (finite b m) (nan c t) = false
is_invalid_remainder (nan b s) y = false

-- the root of a negative number
abbrev pub is_invalid_root : Datum → Bool
is_invalid_root (finite b n) = not (eqb n 0) && b
is_invalid_root (infinite b) = b
is_invalid_root (nan b s) = false

-- an invalid product, or an infinite one plus the opposite infinity
abbrev pub is_invalid_fused : Datum → Datum → Datum → Bool
is_invalid_fused x y z =
    is_invalid_product x y
    || ((is_infinite x || is_infinite y) && (is_infinite z
    && not (same_sign (product_sign (is_negative x) (is_negative y)) (is_negative z))))
