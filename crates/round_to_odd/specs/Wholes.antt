-- Rounding to odd where the neighbours are integers: integers out, and rounding to an integral datum.
use Rattle.std.specs.Prelude.{◌≡◌, ℕ, ◌+◌, ◌-◌, ◌*◌, ◌/◌, ◌%◌, ◌^◌, ◌&&◌, eqb, ℤ, pos, neg_ℤ, if◌then◌else◌}
use Rattle.apfloat_model.specs.{declared.status.StatusAnd.StatusAnd, formats.Format.Format, formats.Nan.IsOfNan}
use Rattle.apfloat_model.specs.{arithmetic.Exact.signed}
use Rattle.apfloat_model.specs.formats.Datum.{Datum, finite, infinite, nan}
use Rattle.apfloat_model.specs.rounding.{Answer.IsAnswer, Flags.Gives, Rounding.ok_bits, Rounding.signed_quanta}
use Rattle.apfloat_model.specs.whole_numbers.WholeNumbers.{inexact_unless}
use Rattle.apfloat_model.specs.whole_numbers.WholeNumbersOut.{Whole, invalid_whole, exact_or_not, ranged}

-- amount / parts, or of the two integers beside it the odd one
abbrev pub odd_whole : ℕ → ℕ → ℕ
odd_whole amount parts =
    if eqb (amount % parts) 0
    then amount / parts
    else (if eqb (amount / parts % 2) 1 then amount / parts else amount / parts + 1)

-- the same for `quanta` quanta, in quanta
abbrev pub odd_whole_quanta : Format → ℕ → ℕ
odd_whole_quanta f quanta = odd_whole quanta (2 ^ f.scale) * 2 ^ f.scale

-- the integer, if it is in range: an odd one that is not is out of range like any other
abbrev pub odd_within : Format → ℤ → ℤ → Datum → Whole
odd_within f low high (nan b s) = invalid_whole (pos 0)
odd_within f low high (infinite b) = invalid_whole (if b then low else high)
odd_within f low high (finite b n) =
    ranged low high (signed b (odd_whole n (2 ^ f.scale)))
    (exact_or_not (signed b (odd_whole n (2 ^ f.scale))) (eqb (odd_whole_quanta f n) n) (b && eqb n 0))

abbrev pub to_odd_unsigned : Format → ℕ → Datum → Whole
to_odd_unsigned f width x = odd_within f (pos 0) (pos (2 ^ width - 1)) x

abbrev pub to_odd_signed : Format → ℕ → Datum → Whole
to_odd_signed f width x = odd_within f (neg_ℤ (pos (2 ^ (width - 1)))) (pos (2 ^ (width - 1) - 1)) x

-- the integer with its flags
pub record IsOddWhole (answer : Whole) (number : ℤ) (status : ℕ) : Type 0 where
  pub number_is : number ≡ answer.number
  pub status_is : status ≡ answer.status

-- rounding to an integral datum
abbrev pub IsRoundToOddIntegral : Format → Datum → Datum → ℕ → Type 0
IsRoundToOddIntegral f (nan b s) value status = IsOfNan f b s value status
IsRoundToOddIntegral f (infinite b) value status = IsAnswer (infinite b) ok_bits value status
IsRoundToOddIntegral f (finite b n) value status =
    IsAnswer (signed_quanta f.nonfinite b (odd_whole_quanta f n)) (inexact_unless (eqb (odd_whole_quanta f n) n)) value
    status

-- rounding to an integral datum has one answer
abbrev pub IsOddIntegralOnce : Type 0
IsOddIntegralOnce =
    (f : Format) (x : Datum) (answer other : StatusAnd Datum) → Gives (IsRoundToOddIntegral f x) answer
    → Gives (IsRoundToOddIntegral f x) other → answer ≡ other
