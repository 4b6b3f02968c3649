-- To integers (IEEE 754-2019 5.4.1 convertToInteger, 5.8).
use Rattle.std.specs.Prelude.{◌≡◌, ℕ, ◌-◌, ◌^◌, Bool, false, not, ◌&&◌, eqb, ℤ, pos, neg_ℤ, int_lt, if◌then◌else◌}
use Rattle.apfloat_model.specs.{declared.kinds.Round.Round, formats.Format.Format, formats.Nan.invalid_bit}
use Rattle.apfloat_model.specs.{arithmetic.Exact.signed}
use Rattle.apfloat_model.specs.formats.Datum.{Datum, finite, infinite, nan}
use Rattle.apfloat_model.specs.whole_numbers.WholeNumbers.{whole_pick, whole_quanta, inexact_unless}

pub record Whole : Type 0 where
  pub number : ℤ
  pub status : ℕ
  -- whether the integer equals the operand; -0 is not an integer
  pub is_exact : Bool

abbrev pub invalid_whole : ℤ → Whole
invalid_whole number = record { number = number; status = invalid_bit; is_exact = false }

abbrev pub exact_or_not : ℤ → Bool → Bool → Whole
exact_or_not number exact minus_zero =
    record { number = number; status = inexact_unless exact; is_exact = exact && not minus_zero }

-- a number out of range gives the nearer end of the range
abbrev pub ranged : ℤ → ℤ → ℤ → Whole → Whole
ranged low high number answer =
    if int_lt number low then invalid_whole low else (if int_lt high number then invalid_whole high else answer)

abbrev pub whole_within : Format → Round → ℤ → ℤ → Datum → Whole
whole_within f mode low high (nan b s) = invalid_whole (pos 0)
whole_within f mode low high (infinite b) = invalid_whole (if b then low else high)
whole_within f mode low high (finite b n) =
    ranged low high (signed b (whole_pick mode b n (2 ^ f.scale)))
    (exact_or_not (signed b (whole_pick mode b n (2 ^ f.scale))) (eqb (whole_quanta f mode b n) n) (b && eqb n 0))

abbrev pub to_unsigned : Format → Round → ℕ → Datum → Whole
to_unsigned f mode width x = whole_within f mode (pos 0) (pos (2 ^ width - 1)) x

abbrev pub to_signed : Format → Round → ℕ → Datum → Whole
to_signed f mode width x = whole_within f mode (neg_ℤ (pos (2 ^ (width - 1)))) (pos (2 ^ (width - 1) - 1)) x

pub record IsWhole (answer : Whole) (number : ℤ) (status : ℕ) (is_exact : Bool) : Type 0 where
  pub number_is : number ≡ answer.number
  pub status_is : status ≡ answer.status
  pub is_exact_is : is_exact ≡ answer.is_exact

abbrev pub IsToUnsigned : Format → Round → ℕ → Datum → ℕ → ℕ → Bool → Type 0
IsToUnsigned f mode width x number status is_exact = IsWhole (to_unsigned f mode width x) (pos number) status is_exact

abbrev pub IsToSigned : Format → Round → ℕ → Datum → ℤ → ℕ → Bool → Type 0
IsToSigned f mode width x number status is_exact = IsWhole (to_signed f mode width x) number status is_exact
