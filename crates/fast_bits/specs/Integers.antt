-- Numbers rounded to integers.
use Rattle.std.specs.Prelude.{◌≡◌, ℕ, ◌^◌, ◌<◌, ◌≤◌, Bool, false, not, ◌&&◌, eqb}
use Rattle.apfloat_model.specs.{arithmetic.Exact.signed, declared.kinds.Round.Round, formats.Datum.finite}
use Rattle.apfloat_model.specs.{formats.Lawful.Constants, formats.Lawful.format_with, rounding.Flags.bits_of}
use Rattle.apfloat_model.specs.whole_numbers.WholeNumbers.{inexact_unless, whole_pick, whole_quanta}
use Rattle.apfloat_conversions.specs.{Wholes.signed_limit, declared.integers.Signed.Signed}
use Rattle.apfloat_conversions.specs.declared.integers.Unsigned.{Unsigned}
use Rattle.fast_bits.specs.{Encoded.value_in, declared.integers.Rounded.Rounded}

-- the bits encode a number of that sign, and this is the integer that the mode picks for it
pub record IsRounded (c : Constants) (mode : Round) (bits : ℕ) (negative : Bool) (x : Rounded) : Type 0 where
  pub quanta : ℕ
  pub read : value_in c bits ≡ finite negative quanta
  pub picked : x.magnitude ≡ whole_pick mode negative quanta (2 ^ (format_with c).scale)
  pub status_is : bits_of x.status
      ≡ inexact_unless (eqb (whole_quanta (format_with c) mode negative quanta) quanta)
  pub is_exact_is : x.is_exact
      ≡ (eqb (whole_quanta (format_with c) mode negative quanta) quanta && not (negative && eqb quanta 0))
  pub small : x.magnitude ≤ 2 ^ 62

-- the same integer, which is in the range of signed ones of that width
pub record IsSignedOf (x : Rounded) (negative : Bool) (width : ℕ) (answer : Signed) : Type 0 where
  pub fits : x.magnitude ≤ signed_limit width negative
  pub value_is : answer.answer.value ≡ signed negative x.magnitude
  pub status_is : bits_of answer.answer.status ≡ bits_of x.status
  pub is_exact_is : answer.is_exact ≡ x.is_exact

-- the same of unsigned integers, for a number without a minus sign
pub record IsUnsignedOf (x : Rounded) (negative : Bool) (width : ℕ) (answer : Unsigned) : Type 0 where
  pub sign : negative ≡ false
  pub fits : x.magnitude < 2 ^ width
  pub value_is : answer.answer.value ≡ x.magnitude
  pub status_is : bits_of answer.answer.status ≡ bits_of x.status
  pub is_exact_is : answer.is_exact ≡ x.is_exact
