-- Significands while they are read from the left.
use Rattle.std.specs.Prelude.{◌≡◌, ◌⊎◌, ℕ, ◌+◌, ◌*◌, ◌^◌, ◌≤◌, false, not, ltb}
use Rattle.std.specs.Prelude.{◌&&◌, if◌then◌else◌, List, length, filter, fold}
use Rattle.apfloat_model.specs.declared.loss.Loss.{Loss, TheVariants.ExactlyZero}
use Rattle.apfloat_model.specs.texts.{Digits.is_empty, Digits.is_hexadecimal, Digits.digit_value, Faults.is_dot}
use Rattle.apfloat_model.specs.texts.{Faults.significand_of, Faults.after_significand, Literals.digits_number}
use Rattle.apfloat_model.specs.{texts.Literals.places_after_dot, rounding.Standing.StandsFor}
use Rattle.apfloat_conversions.specs.declared.hex_texts.significand.{Digits.Digits, Scan.Scan}

-- what is kept of an integer after `cut` hexadecimal digits are cut off: all of it, or at least 125 bits and a loss
pub record IsKeptAt (number significand : ℕ) (loss : Loss) (cut : ℕ) : Type 0 where
  pub stands : StandsFor significand loss number (2 ^ (4 * cut))
  pub exact : cut ≡ 0 → loss ≡ ExactlyZero
  pub full : (cut ≡ 0) ⊎ (2 ^ 124 ≤ significand)

-- the same, for the record of digits
abbrev pub IsKept : ℕ → Digits → Type 0
IsKept number digits = IsKeptAt number digits.significand digits.loss digits.cut

-- the integer whose first digits have the value n and are followed by these digits
abbrev pub number_from : ℕ → List ℕ → ℕ
number_from n digits = fold (λ n c. n * 16 + digit_value c) n digits

-- A significand, in terms of the digits read so far and those that are left.
pub record IsScan (rest left : List ℕ) (scan : Scan) : Type 0 where
  pub read : ℕ
  pub kept : IsKept read scan.digits
  pub number_is : digits_number rest ≡ number_from read (filter is_hexadecimal (significand_of left))
  pub places_is : places_after_dot rest ≡ scan.places
      + (if scan.pointed then length (significand_of left) else places_after_dot left)
  pub dots_are : length (filter is_dot (significand_of rest))
      ≡ (if scan.pointed then 1 else 0) + length (filter is_dot (significand_of left))
  pub empty_is : is_empty (filter is_hexadecimal (significand_of rest))
      ≡ (not scan.some && is_empty (filter is_hexadecimal (significand_of left)))
  pub tail_is : after_significand rest ≡ after_significand left
  pub cut_fits : scan.digits.cut + length left ≤ length rest
  pub places_fit : scan.places + length left ≤ length rest

-- The significand that precedes `tail`.
pub record IsScanned (rest tail : List ℕ) (scan : Scan) : Type 0 where
  pub kept : IsKept (digits_number rest) scan.digits
  pub places_are : places_after_dot rest ≡ scan.places
  pub one_dot : ltb 1 (length (filter is_dot (significand_of rest))) ≡ false
  pub empty_is : is_empty (filter is_hexadecimal (significand_of rest)) ≡ not scan.some
  pub tail_is : after_significand rest ≡ tail
  pub cut_fits : scan.digits.cut ≤ length rest
  pub places_fit : scan.places ≤ length rest
