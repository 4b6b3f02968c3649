-- The decimal that the text of a decimal spells.
use Rattle.std.specs.Prelude.{ℕ, ◌+◌, ◌-◌, ◌*◌, ◌^◌, ◌<◌, ℤ, pos, neg_ℤ, ◌≤ℤ◌, Bool, ◌&&◌, eqb, if◌then◌else◌}
use Rattle.apfloat_model.specs.arithmetic.Exact.{up, down}
use Rattle.apfloat_decimals.specs.{declared.decimal.Decimal.Decimal, Texts.is_plain}

-- the numbers of a `Decimal` belong to their types
pub record IsStoredDecimal (x : Decimal) : Type 0 where
  pub digits : x.digits < 2 ^ 128
  pub exponent_low : neg_ℤ (pos (2 ^ 31)) ≤ℤ x.exponent
  pub exponent_high : x.exponent ≤ℤ pos (2 ^ 31 - 1)

-- n * 10 ^ e is written without an exponent and has no digits after the dot, where the text then has a zero
abbrev pub is_written_whole : ℕ → ℤ → Bool
is_written_whole n e = is_plain n e && eqb (down e) 0

-- the text of a decimal spells the same decimal, except that a zero and an integer get a zero after their dot
abbrev pub written : Decimal → Decimal
written x =
    if eqb x.digits 0 then record { negative = x.negative; digits = 0; exponent = neg_ℤ (pos 1) }
    else (if is_written_whole x.digits x.exponent
    then record { negative = x.negative; digits = x.digits * 10 ^ (up x.exponent + 1); exponent = neg_ℤ (pos 1) }
    else x)
