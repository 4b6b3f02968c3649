-- The integer that a mode picks for a magnitude, in the form that the code passes on.
use Rattle.std.specs.Prelude.{◌≡◌, ℕ, ◌-◌, ◌*◌, ◌^◌, ◌≤◌, Bool, eqb, Option, Some, None, if◌then◌else◌}
use Rattle.apfloat_model.specs.{declared.kinds.Round.Round, whole_numbers.WholeNumbers.whole_pick}
use Rattle.apfloat_conversions.specs.declared.whole.Whole.{Whole}

-- the picked integer, and whether it equals the magnitude
pub record IsPicked (mode : Round) (negative : Bool) (amount parts : ℕ) (whole : Whole) : Type 0 where
  pub magnitude_is : whole.magnitude ≡ whole_pick mode negative amount parts
  pub exact_is : whole.exact ≡ eqb (whole_pick mode negative amount parts * parts) amount

abbrev pub IsPickedWithin : Round → Bool → ℕ → ℕ → Option Whole → Type 0
IsPickedWithin mode negative amount parts (Some whole) = IsPicked mode negative amount parts whole
IsPickedWithin mode negative amount parts None = 2 ^ 128 ≤ whole_pick mode negative amount parts

-- the greatest magnitude of a signed integer of `width` binary digits with that sign
abbrev pub signed_limit : ℕ → Bool → ℕ
signed_limit width negative = if negative then 2 ^ (width - 1) else 2 ^ (width - 1) - 1
