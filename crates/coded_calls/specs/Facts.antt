-- What a format is.
use Rattle.std.specs.Prelude.{◌≡◌, ℕ, ◌-◌, ◌^◌, ◌<◌, ◌≤◌}
use Rattle.apfloat_model.specs.declared.kinds.NonfiniteBehavior.{NonfiniteBehavior}
use Rattle.apfloat_model.specs.declared.kinds.NonfiniteBehavior.TheVariants.{IEEE754, NanOnly, NanNegativeZero}
use Rattle.rustc_apfloat.specs.Constants.{largest_datum, smallest_datum, smallest_normalized_datum}
use Rattle.rustc_apfloat.specs.{Layout.IsEncodedBy, Datum.Datum}
use Rattle.rustc_apfloat.specs.Lawful.{Constants, format_with, layout_with}
use Rattle.coded_calls.specs.{declared.data.Halves.Halves, declared.facts.Facts.Facts, Answers.whole}

abbrev pub has_infinities_code : NonfiniteBehavior → ℕ
has_infinities_code IEEE754 = 1
has_infinities_code NanOnly = 0
has_infinities_code NanNegativeZero = 0

abbrev pub nonfinite_code : NonfiniteBehavior → ℕ
nonfinite_code IEEE754 = 0
nonfinite_code NanOnly = 1
nonfinite_code NanNegativeZero = 2

-- The least n with 2 ^ precision < 10 ^ (n - 1): so many digits, rounded to nearest, are read back as the number that
-- they were written for (IEEE 754-2019 5.12.2).
pub record IsDigitCountToReadBack (precision count : ℕ) : Type 0 where
  pub some : 2 ≤ count
  pub enough : 2 ^ precision < 10 ^ (count - 1)
  pub least : 10 ^ (count - 2) ≤ 2 ^ precision

abbrev pub IsEncoding : Constants → Halves → Datum → Type 0
IsEncoding c bits datum = IsEncodedBy (format_with c) (layout_with c) (whole bits) datum

pub record AreFacts (c : Constants) (size : ℕ) (facts : Facts) : Type 0 where
  pub largest : IsEncoding c facts.largest (largest_datum (format_with c))
  pub smallest_normal : IsEncoding c facts.smallest_normal (smallest_normalized_datum (format_with c))
  pub smallest : IsEncoding c facts.smallest smallest_datum
  pub bits : facts.bits ≡ c.bits
  pub bytes : facts.bytes ≡ size
  pub precision : facts.precision ≡ c.precision
  pub least_exponent : facts.least_exponent ≡ c.min_exp
  pub greatest_exponent : facts.greatest_exponent ≡ c.max_exp
  pub decimal_digits : IsDigitCountToReadBack c.precision facts.decimal_digits
  pub has_infinities : facts.has_infinities ≡ has_infinities_code c.nonfinite
  pub nans : facts.nans ≡ nonfinite_code c.nonfinite

-- two descriptions with the same numbers
pub record SameFacts (first second : Facts) : Type 0 where
  pub largest : whole first.largest ≡ whole second.largest
  pub smallest_normal : whole first.smallest_normal ≡ whole second.smallest_normal
  pub smallest : whole first.smallest ≡ whole second.smallest
  pub bits : first.bits ≡ second.bits
  pub bytes : first.bytes ≡ second.bytes
  pub precision : first.precision ≡ second.precision
  pub least_exponent : first.least_exponent ≡ second.least_exponent
  pub greatest_exponent : first.greatest_exponent ≡ second.greatest_exponent
  pub decimal_digits : first.decimal_digits ≡ second.decimal_digits
  pub has_infinities : first.has_infinities ≡ second.has_infinities
  pub nans : first.nans ≡ second.nans
