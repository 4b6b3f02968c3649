-- How many decimal digits a value has.
use Rattle.std.specs.Prelude.{◌≡◌, ◌≢◌, ℕ, ◌-◌, ◌%◌, ◌^◌, ◌<◌, ◌≤◌, ℤ, false}
use Rattle.std.specs.{Prelude.Option, Option.MatchOption}
use Rattle.apfloat_model.specs.{declared.kinds.Category.TheVariants.Normal, formats.Datum.Datum, formats.Format.Format}
use Rattle.apfloat_model.specs.order.Classes.{category_of, is_finite_non_zero_category, quanta_of}
use Rattle.apfloat_decimals.specs.ExactDecimals.{IsNumberOf}

-- the decimal of that many quanta that does not end in 0 has that many digits
pub record IsDigitCount (f : Format) (quanta count : ℕ) : Type 0 where
  pub digits : ℕ
  pub exponent : ℤ
  pub number : IsNumberOf f quanta digits exponent
  pub last : digits % 10 ≢ 0
  pub full : 10 ^ (count - 1) ≤ digits
  pub fits : digits < 10 ^ count

-- zeros, infinities and NaNs have no first digit
abbrev pub GivesDigitCount : Format → Datum → Option ℕ → Type 0
GivesDigitCount f x answer =
    MatchOption answer (is_finite_non_zero_category (category_of x) ≡ false)
    (λ count. (category_of x ≡ Normal) × IsDigitCount f (quanta_of x) count)
