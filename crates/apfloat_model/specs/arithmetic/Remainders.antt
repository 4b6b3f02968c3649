-- Remainders, by the quotient truncated toward zero and by the nearest integer (IEEE 754-2019 5.3.1); both are exact.
use Rattle.std.specs.Prelude.{ℕ, ◌-◌, ◌*◌, ◌/◌, Bool, false, not, ltb, eqb, count_ones, if◌then◌else◌}
use Rattle.apfloat_model.specs.declared.kinds.{NonfiniteBehavior.NonfiniteBehavior, Round.TheVariants.NearestTiesToEven}
use Rattle.apfloat_model.specs.formats.{Format.Format, Datum.Datum, Datum.finite, Datum.infinite, Datum.nan}
use Rattle.apfloat_model.specs.rounding.Rounding.{signed_quanta}
use Rattle.apfloat_model.specs.rounding.Outcome.{Outcome, exactly, invalid, of_nan, of_nans, Yields}
use Rattle.apfloat_model.specs.whole_numbers.WholeNumbers.{whole_pick}

-- The quotient of two magnitudes, truncated toward zero, and the integer nearest to it.
abbrev pub truncated_quotient : ℕ → ℕ → ℕ
truncated_quotient m n = m / n

abbrev pub nearest_quotient : ℕ → ℕ → ℕ
nearest_quotient m n = whole_pick NearestTiesToEven false m n

-- m minus `taken`, with the sign of m; a zero keeps it too
abbrev pub rest_of : NonfiniteBehavior → Bool → ℕ → ℕ → Datum
rest_of kind negative m taken =
    if ltb m taken then signed_quanta kind (not negative) (taken - m) else signed_quanta kind negative (m - taken)

-- by a given integer quotient
abbrev pub remainder : Format → (ℕ → ℕ → ℕ) → Datum → Datum → Outcome
remainder f quotient (nan b s) y = of_nans f b s y
remainder f quotient x (nan c t) = of_nan f c t
remainder f quotient (infinite b) y = invalid f
remainder f quotient (finite b m) (infinite c) = exactly (finite b m)
remainder f quotient (finite b m) (finite c n) =
    if eqb n 0 then invalid f else exactly (rest_of f.nonfinite b m (n * quotient m n))

abbrev pub IsRemainder : Format → (ℕ → ℕ → ℕ) → Datum → Datum → Datum → ℕ → Type 0
IsRemainder f quotient x y value status = Yields f NearestTiesToEven (remainder f quotient x y) value status

-- x - y * t, where t is the quotient truncated toward zero
abbrev pub IsTruncatedRemainder : Format → Datum → Datum → Datum → ℕ → Type 0
IsTruncatedRemainder f x y value status = IsRemainder f truncated_quotient x y value status

-- x - y * n, where n is the integer nearest to the quotient, ties to even
abbrev pub IsNearestRemainder : Format → Datum → Datum → Datum → ℕ → Type 0
IsNearestRemainder f x y value status = IsRemainder f nearest_quotient x y value status

-- how many binary digits of the quotient truncated toward zero are ones
abbrev pub ones_of_quotient : Datum → Datum → ℕ
ones_of_quotient (finite b m) (finite c n) = if eqb n 0 then 0 else count_ones (truncated_quotient m n)
ones_of_quotient x y = 0
