-- Theorems about the formats of P3109.
use Rattle.std.specs.Prelude.{◌≡◌, ℕ, ◌/◌, ◌^◌, ◌<◌, ◌≤◌, Bool, Some}
use Rattle.std.specs.declared.cmp.Ordering.TheVariants.{Less}
use Rattle.apfloat_model.specs.{declared.kinds.Round.Round, formats.Datum.Datum, formats.Format.Format}
use Rattle.apfloat_model.specs.{order.Order.compared, rounding.Rounding.IsPick}
use Rattle.small_formats.specs.Codes.{point}
use Rattle.p3109_formats.specs.declared.descriptor.Descriptor.{Descriptor}
use Rattle.p3109_formats.specs.Projections.{IsCodePick, IsIntoProjection, IsProjection, code_above, code_below}
use Rattle.p3109_formats.specs.Projections.{projected_datum, projected_format, unsigned_codes}

-- the middle of the codes without a sign is 1
abbrev pub IsOneInTheMiddle : Type 0
IsOneInTheMiddle =
    (c : Descriptor) → IsProjection c → point c.precision (unsigned_codes c / 2) ≡ 2 ^ (projected_format c).scale

-- the code, the flags and the loss of information are determined
abbrev pub IsProjectedOnce : Type 0
IsProjectedOnce =
    (c : Descriptor) (f : Format) (mode : Round) (x : Datum) (code other status flags : ℕ) (loses lost : Bool)
    → IsProjection c → code < 2 ^ c.bits → other < 2 ^ c.bits → IsIntoProjection c f mode x code status loses
    → IsIntoProjection c f mode x other flags lost → (code ≡ other) × (status ≡ flags) × (loses ≡ lost)

-- with two digits or more, the pick by codes is the pick by significands
abbrev pub AreCodePicksPicks : Type 0
AreCodePicksPicks =
    (precision : ℕ) (mode : Round) (negative : Bool) (amount parts index : ℕ) → 2 ≤ precision → 0 < parts
    → IsCodePick precision mode negative amount parts index
    → IsPick precision mode negative amount parts (point precision index)

-- the first code means a lesser value
abbrev pub IsLess : Descriptor → ℕ → ℕ → Type 0
IsLess c code other = compared (projected_datum c code) (projected_datum c other) ≡ Some Less

-- Where there is a greater value, the next one up is greater, and no other one is between; and so downward.
abbrev pub AreNextValues : Type 0
AreNextValues =
    (c : Descriptor) (code other : ℕ) → IsProjection c → code < 2 ^ c.bits → other < 2 ^ c.bits
    → (IsLess c code other → IsLess c code (code_above c code) × (IsLess c other (code_above c code) → ⊥))
    × (IsLess c other code → IsLess c (code_below c code) code × (IsLess c (code_below c code) other → ⊥))
