-- The results of conversions, in terms of the data and the integers that they represent.
use Rattle.std.specs.Prelude.{◌^◌, ◌<◌, ◌≤◌, ℕ, Bool, false, eqb, pos}
use Rattle.apfloat_model.specs.{declared.kinds.Round.Round, formats.Format.Format, formats.Datum.Datum}
use Rattle.apfloat_model.specs.rounding.Flags.{bits_of}
use Rattle.apfloat_model.specs.whole_numbers.WholeNumbers.{whole_pick, whole_quanta}
use Rattle.apfloat_model.specs.whole_numbers.WholeNumbersOut.{Whole, IsWhole, exact_or_not, invalid_whole}
use Rattle.apfloat_rounding.specs.{declared.shape.Shape.Shape, Stored.datum_at}
use Rattle.apfloat_conversions.specs.declared.between_formats.Converted.{Converted}
use Rattle.apfloat_conversions.specs.declared.integers.{Signed.Signed, Unsigned.Unsigned}

-- a result whose datum, status and loss of information satisfy the relation
abbrev pub ConvertsAt : Shape → (Datum → ℕ → Bool → Type 0) → Converted → Type 0
ConvertsAt s Says converted =
    Says (datum_at s converted.answer.value) (bits_of converted.answer.status) converted.loses_info

-- the integer with its status, and whether it is exact
abbrev pub GivesWhole : Whole → Unsigned → Type 0
GivesWhole answer whole = IsWhole answer (pos whole.answer.value) (bits_of whole.answer.status) whole.is_exact

-- the signed integer with its status, and whether it is exact
abbrev pub GivesSigned : Whole → Signed → Type 0
GivesSigned answer whole = IsWhole answer whole.answer.value (bits_of whole.answer.status) whole.is_exact

-- the integer that the mode picks for a number of quanta, or the limit, with INVALID_OP, if that is less
pub record IsLimited (f : Format) (mode : Round) (negative : Bool) (quanta limit : ℕ) (whole : Unsigned) : Type 0 where
  pub past : limit < whole_pick mode negative quanta (2 ^ f.scale) → GivesWhole (invalid_whole (pos limit)) whole
  pub within : whole_pick mode negative quanta (2 ^ f.scale) ≤ limit
      → GivesWhole
      (exact_or_not (pos (whole_pick mode negative quanta (2 ^ f.scale)))
      (eqb (whole_quanta f mode negative quanta) quanta) false) whole
