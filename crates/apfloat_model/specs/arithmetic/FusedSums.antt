-- The product of two operands plus a third, rounded once (IEEE 754-2019 5.4.1, fusedMultiplyAdd).
use Rattle.std.specs.Prelude.{ℕ, ◌*◌, ◌^◌, eqb, ◌+ℤ◌, if◌then◌else◌}
use Rattle.apfloat_model.specs.{declared.kinds.Round.Round, formats.Format.Format, formats.Datum.Datum}
use Rattle.apfloat_model.specs.{formats.Datum.finite, rounding.Rounding.ok_bits}
use Rattle.apfloat_model.specs.rounding.Outcome.{Outcome, settled, rounded, totalled, rooted, Yields}
use Rattle.apfloat_model.specs.arithmetic.{Exact.product_sign, Exact.signed, Sums.sum, Products.product}

-- the greatest precision of a format that has `mul_add_r`: a sum with the exact product fits in 128 bits
abbrev pub fused_limit : ℕ
fused_limit = 63

-- an addend on top of a product with an infinity or a NaN: a product that raises a flag is the result
abbrev pub on_product : Format → Datum → Outcome → Outcome
on_product f z (settled datum flags) = if eqb flags ok_bits then sum f datum z else settled datum flags
on_product f z (rounded negative amount parts) = rounded negative amount parts
on_product f z (totalled left right exact parts) = totalled left right exact parts
on_product f z (rooted square parts) = rooted square parts

-- a fused sum with an infinity or a NaN among its factors
abbrev pub with_product : Format → Datum → Datum → Datum → Outcome
with_product f x y z = on_product f z (product f x y)

abbrev pub IsSumWithProduct : Format → Round → Datum → Datum → Datum → Datum → ℕ → Type 0
IsSumWithProduct f mode x y z value status = Yields f mode (with_product f x y z) value status

abbrev pub fused_sum : Format → Datum → Datum → Datum → Outcome
fused_sum f (finite b l) (finite c m) (finite d n) =
    totalled (product_sign b c) d
    (signed (product_sign b c) (l * m) +ℤ signed d (n * 2 ^ f.scale)) (2 ^ f.scale)
fused_sum f (finite b l) (finite c m) z = sum f (finite b l) z
fused_sum f x y z = with_product f x y z

abbrev pub IsFusedSum : Format → Round → Datum → Datum → Datum → Datum → ℕ → Type 0
IsFusedSum f mode x y z value status = Yields f mode (fused_sum f x y z) value status
