-- From integers, and rounding to an integer (IEEE 754-2019 5.4.1 convertFromInt, 5.3.1 and 5.9 roundToIntegral).
use Rattle.std.specs.Prelude.{ℕ, ◌+◌, ◌*◌, ◌/◌, ◌%◌, ◌^◌, Bool, false, eqb, ℤ, if◌then◌else◌}
use Rattle.apfloat_model.specs.{declared.kinds.Round.Round, formats.Format.Format}
use Rattle.apfloat_model.specs.formats.Datum.{Datum, finite, infinite, nan}
use Rattle.apfloat_model.specs.rounding.Rounding.{ok_bits, inexact_bit, pick_between, signed_quanta}
use Rattle.apfloat_model.specs.rounding.Outcome.{Outcome, settled, rounded, exactly, of_nan, Yields}
use Rattle.apfloat_model.specs.arithmetic.Exact.{sign_of, magnitude}

-- ---- in: an integer times 2 ^ scale is its count of quanta

abbrev pub from_unsigned : Format → ℕ → Outcome
from_unsigned f number = rounded false (number * 2 ^ f.scale) 1

abbrev pub IsFromUnsigned : Format → Round → ℕ → Datum → ℕ → Type 0
IsFromUnsigned f mode number value status = Yields f mode (from_unsigned f number) value status

abbrev pub from_signed : Format → ℤ → Outcome
from_signed f number = rounded (sign_of false number) (magnitude number * 2 ^ f.scale) 1

abbrev pub IsFromSigned : Format → Round → ℤ → Datum → ℕ → Type 0
IsFromSigned f mode number value status = Yields f mode (from_signed f number) value status

-- ---- the integer that the mode picks for amount / parts; its neighbours are integers

abbrev pub whole_pick : Round → Bool → ℕ → ℕ → ℕ
whole_pick mode negative amount parts =
    if eqb (amount % parts) 0
    then amount / parts
    else pick_between mode negative (amount / parts) (amount / parts + 1) amount parts

-- the integer that the mode picks for `quanta` quanta, in quanta
abbrev pub whole_quanta : Format → Round → Bool → ℕ → ℕ
whole_quanta f mode negative quanta = whole_pick mode negative quanta (2 ^ f.scale) * 2 ^ f.scale

abbrev pub inexact_unless : Bool → ℕ
inexact_unless exact = if exact then ok_bits else inexact_bit

abbrev pub integral : Format → Round → Datum → Outcome
integral f mode (nan b s) = of_nan f b s
integral f mode (infinite b) = exactly (infinite b)
integral f mode (finite b n) =
    settled (signed_quanta f.nonfinite b (whole_quanta f mode b n))
    (inexact_unless (eqb (whole_quanta f mode b n) n))

abbrev pub IsRoundToIntegral : Format → Round → Datum → Datum → ℕ → Type 0
IsRoundToIntegral f mode x value status = Yields f mode (integral f mode x) value status
