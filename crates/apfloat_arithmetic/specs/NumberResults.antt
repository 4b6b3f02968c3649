-- Operations on nonzero numbers: their results, rounded once, and the terms of a fused sum.
use Rattle.std.specs.Prelude.{◌≡◌, ℕ, ◌-◌, ◌*◌, ◌^◌, ◌<◌, ◌≤◌, ℤ, pos, neg_ℤ, ◌≤ℤ◌, ◌+ℤ◌, ◌-ℤ◌, Bool}
use Rattle.apfloat_model.specs.{declared.kinds.Round.Round, formats.Datum.Datum, arithmetic.Exact.product_sign}
use Rattle.apfloat_model.specs.arithmetic.{Exact.signed, Exact.up, Exact.IsRounded, Sums.zero_sum_sign}
use Rattle.apfloat_model.specs.rounding.{Bounds.IsWithin, Bounds.integer_bit_bound, Rounding.IsDelivered}
use Rattle.apfloat_rounding.specs.{Shapes.format_at, Stored.IsNormal, Stored.quanta_of}
use Rattle.apfloat_rounding.specs.declared.{shape.Shape.Shape, unpacked.Unpacked.Unpacked}

-- two nonzero numbers
pub record AreNormal (s : Shape) (x y : Unpacked) : Type 0 where
  pub left : IsNormal s x
  pub right : IsNormal s y

-- three nonzero numbers
pub record AreNormalTerms (s : Shape) (x y z : Unpacked) : Type 0 where
  pub left : IsNormal s x
  pub right : IsNormal s y
  pub addend : IsNormal s z

-- ---- results

abbrev pub IsNumberSum : Shape → Round → Unpacked → Unpacked → Datum → ℕ → Type 0
IsNumberSum s mode x y value status =
    IsRounded (format_at s) mode (zero_sum_sign mode x.negative y.negative)
    (signed x.negative (quanta_of s x) +ℤ signed y.negative (quanta_of s y)) 1 value status

abbrev pub IsNumberProduct : Shape → Round → Unpacked → Unpacked → Datum → ℕ → Type 0
IsNumberProduct s mode x y value status =
    IsDelivered (format_at s) mode (product_sign x.negative y.negative) (quanta_of s x * quanta_of s y)
    (2 ^ (format_at s).scale) value status

abbrev pub IsNumberQuotient : Shape → Round → Unpacked → Unpacked → Datum → ℕ → Type 0
IsNumberQuotient s mode x y value status =
    IsDelivered (format_at s) mode (product_sign x.negative y.negative) (quanta_of s x * 2 ^ (format_at s).scale)
    (quanta_of s y) value status

abbrev pub IsNumberFusedSum : Shape → Round → Unpacked → Unpacked → Unpacked → Datum → ℕ → Type 0
IsNumberFusedSum s mode x y z value status =
    let sign = product_sign x.negative y.negative in
    IsRounded (format_at s) mode (zero_sum_sign mode sign z.negative)
    (signed sign (quanta_of s x * quanta_of s y)
    +ℤ signed z.negative (quanta_of s z * 2 ^ (format_at s).scale))
    (2 ^ (format_at s).scale) value status

-- ---- terms

-- the significand counts an amount of squares of the quantum, in every small unit
abbrev pub CountsSquares : ℕ → ℕ → ℤ → ℕ → Type 0
CountsSquares scale amount exponent significand =
    (base : ℤ) (k : ℕ) → base ≤ℤ exponent → pos k ≡ neg_ℤ (base +ℤ pos (2 * scale))
    → significand * 2 ^ up (exponent -ℤ base) ≡ amount * 2 ^ k

-- a term with that sign, of so many squares of the quantum, with twice the digits of the format
pub record IsFusedTerm (s : Shape) (sign : Bool) (amount : ℕ) (is_negative : Bool)
    (exponent : ℤ) (significand : ℕ) : Type 0 where
  pub negative : is_negative ≡ sign
  pub within : IsWithin integer_bit_bound exponent
  pub fits : significand < 2 ^ (2 * s.precision)
  pub full : 2 ^ (2 * s.precision - 1) ≤ significand
  pub counted : CountsSquares (format_at s).scale amount exponent significand
