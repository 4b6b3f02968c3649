-- The integers that machines deliver for invalid conversions (IEEE 754-2019 5.8, 7.2).
use Rattle.std.specs.Prelude.{◌≡◌, ℕ, ◌+◌, ◌-◌, ◌^◌, not, ◌&&◌, ◌||◌, eqb, ℤ, pos, neg_ℤ, if◌then◌else◌, Bool}
use Rattle.apfloat_model.specs.declared.{kinds.Round.Round, status.StatusAnd.StatusAnd}
use Rattle.apfloat_model.specs.rounding.{Flags.Gives, Flags.bits_of, Rounding.inexact_bit}
use Rattle.apfloat_model.specs.formats.{Format.Format, Datum.Datum, Nan.invalid_bit}
use Rattle.apfloat_model.specs.order.Classes.{is_nan, is_negative}
use Rattle.apfloat_model.specs.whole_numbers.WholeNumbersOut.{Whole, to_unsigned, to_signed, IsToUnsigned}
use Rattle.apfloat_machines.specs.declared.machine.{Machine.Machine, WholeOfNan.WholeOfNan}
use Rattle.apfloat_machines.specs.declared.machine.WholeOfNan.TheVariants.{Zero, Least, Greatest, BySign}

abbrev pub least_signed : ℕ → ℤ
least_signed width = neg_ℤ (pos (2 ^ (width - 1)))

abbrev pub greatest_signed : ℕ → ℤ
greatest_signed width = pos (2 ^ (width - 1) - 1)

abbrev pub greatest_unsigned : ℕ → ℤ
greatest_unsigned width = pos (2 ^ width - 1)

-- the integer that a NaN gives, of a range
abbrev pub whole_of_nan : WholeOfNan → Bool → ℤ → ℤ → ℤ
whole_of_nan Zero negative low high = pos 0
whole_of_nan Least negative low high = low
whole_of_nan Greatest negative low high = high
whole_of_nan BySign negative low high = if negative then low else high

-- the integer of an invalid conversion, given that of a NaN and the nearer end of the range
abbrev pub invalid_integer : Machine → Datum → ℤ → ℤ → ℤ
invalid_integer machine x of_nan nearer =
    if is_nan x || machine.has_one_invalid_integer then of_nan else nearer

abbrev pub invalid_flags : Machine → Datum → ℕ
invalid_flags machine x =
    if machine.invalid_integer_is_inexact && not (is_nan x) then invalid_bit + inexact_bit else invalid_bit

-- the integer and the flags that a machine makes of a conversion
abbrev pub settled_number : Machine → Datum → ℤ → ℤ → ℕ → ℤ
settled_number machine x of_nan number status =
    if eqb status invalid_bit then invalid_integer machine x of_nan number else number

abbrev pub settled_flags : Machine → Datum → ℕ → ℕ
settled_flags machine x status = if eqb status invalid_bit then invalid_flags machine x else status

pub record IsMachineWhole (machine : Machine) (x : Datum) (of_nan : ℤ) (answer : Whole) (number : ℤ)
    (status : ℕ) : Type 0 where
  pub number_is : number ≡ settled_number machine x of_nan answer.number answer.status
  pub status_is : status ≡ settled_flags machine x answer.status

abbrev pub signed_nan : Machine → ℕ → Datum → ℤ
signed_nan machine width x =
    whole_of_nan machine.signed_of_nan (is_negative x) (least_signed width) (greatest_signed width)

abbrev pub unsigned_nan : Machine → ℕ → Datum → ℤ
unsigned_nan machine width x =
    whole_of_nan machine.unsigned_of_nan (is_negative x) (pos 0) (greatest_unsigned width)

-- the integer that is the rounded number, or that of an invalid conversion
abbrev pub IsMachineSigned : Format → Machine → Round → ℕ → Datum → ℤ → ℕ → Type 0
IsMachineSigned f machine mode width x number status =
    IsMachineWhole machine x (signed_nan machine width x) (to_signed f mode width x) number status

abbrev pub IsMachineUnsigned : Format → Machine → Round → ℕ → Datum → ℕ → ℕ → Type 0
IsMachineUnsigned f machine mode width x number status =
    IsMachineWhole machine x (unsigned_nan machine width x) (to_unsigned f mode width x) (pos number) status

-- what `settled_unsigned` makes of an answer, and of that of a conversion
pub record IsSettledUnsigned (f : Format) (machine : Machine) (x : Datum) (width : ℕ)
    (answer result : StatusAnd ℕ) : Type 0 where
  pub value_is :
      pos result.value
      ≡ settled_number machine x (unsigned_nan machine width x) (pos answer.value) (bits_of answer.status)
  pub status_is : bits_of result.status ≡ settled_flags machine x (bits_of answer.status)
  pub whole : (mode : Round) → (exact : Bool)
      → IsToUnsigned f mode width x answer.value (bits_of answer.status) exact
      → Gives (IsMachineUnsigned f machine mode width x) result
