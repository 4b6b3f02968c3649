-- The exponent of a datum (IEEE 754-2019 5.3.3, logB), its fraction, and its exact inverse.
use Rattle.std.specs.Prelude.{◌≡◌, ℕ, ◌+◌, ◌-◌, ◌*◌, ◌^◌, ◌<◌, ◌≤◌, Bool, eqb, ℤ, pos, neg_ℤ, ◌-ℤ◌, Option, Some, None}
use Rattle.std.specs.{Prelude.⊤, Bool.MatchBool}
use Rattle.apfloat_model.specs.formats.Format.{Format, smallest_normalized, largest}
use Rattle.apfloat_model.specs.formats.{Datum.Datum, Datum.finite, Datum.infinite, Datum.nan, Nan.quieted}
use Rattle.apfloat_model.specs.arithmetic.Exact.{up, down}

-- the exponents that are returned for an infinity, a NaN and a zero
abbrev pub infinite_exponent : ℤ
infinite_exponent = pos 2147483647

abbrev pub nan_exponent : ℤ
nan_exponent = neg_ℤ (pos 2147483648)

abbrev pub zero_exponent : ℤ
zero_exponent = neg_ℤ (pos 2147483647)

-- 2 ^ exponent is at most `quanta` quanta, and twice that is more
pub record IsLogarithm (f : Format) (quanta : ℕ) (exponent : ℤ) : Type 0 where
  pub place : ℕ
  pub low : 2 ^ place ≤ quanta
  pub high : quanta < 2 ^ (place + 1)
  pub is : exponent ≡ pos place -ℤ pos f.scale

abbrev pub IsIlogb : Format → Datum → ℤ → Type 0
IsIlogb f (nan b s) exponent = exponent ≡ nan_exponent
IsIlogb f (infinite b) exponent = exponent ≡ infinite_exponent
IsIlogb f (finite b n) exponent = MatchBool (eqb n 0) (exponent ≡ zero_exponent) (IsLogarithm f n exponent)

-- `quanta` quanta equal a fraction from one half to below 1, times 2 ^ exponent
pub record IsFraction (f : Format) (negative : Bool) (quanta : ℕ) (value : Datum) (exponent : ℤ) : Type 0 where
  pub fraction : ℕ
  pub low : 2 ^ (f.scale - 1) ≤ fraction
  pub high : fraction < 2 ^ f.scale
  pub same : quanta * 2 ^ down exponent ≡ fraction * 2 ^ up exponent
  pub is : value ≡ finite negative fraction

abbrev pub IsFrexp : Format → Datum → Datum → ℤ → Type 0
IsFrexp f (nan b s) value exponent = (value ≡ nan b (quieted f s)) × (exponent ≡ nan_exponent)
IsFrexp f (infinite b) value exponent = (value ≡ infinite b) × (exponent ≡ infinite_exponent)
IsFrexp f (finite b n) value exponent =
    MatchBool (eqb n 0) ((value ≡ finite b n) × (exponent ≡ pos 0)) (IsFraction f b n value exponent)

-- two numbers, neither of them denormal, whose product is 1
pub record AreInverse (f : Format) (quanta inverse : ℕ) : Type 0 where
  pub normal : smallest_normalized f ≤ quanta
  pub inverse_normal : smallest_normalized f ≤ inverse
  pub within : inverse ≤ largest f
  pub product : quanta * inverse ≡ 2 ^ f.scale * 2 ^ f.scale

abbrev pub IsExactInverse : Format → Datum → Option Datum → Type 0
IsExactInverse f (finite b n) (Some value) = (inverse : ℕ) × AreInverse f n inverse × (value ≡ finite b inverse)
IsExactInverse f (finite b n) None = (inverse : ℕ) → AreInverse f n inverse → ⊥
IsExactInverse f x (Some value) = ⊥
IsExactInverse f x None = ⊤
