-- The constants by which numbers of one sign are rounded and delivered.
use Rattle.std.specs.Prelude.{◌≡◌, ℕ, ◌+◌, Bool, true, false, not, ◌&&◌, if◌then◌else◌}
use Rattle.apfloat_model.specs.{declared.kinds.Round.Round, formats.Format.Format}
use Rattle.apfloat_model.specs.rounding.Rounding.{leads_out, raises_overflow}
use Rattle.fast_bits.specs.{Addends.IsAddendOf, declared.lanes.constants.Side.Side, lanes.Targets.largest_code}

-- the greatest encoding that is delivered
abbrev pub greatest_code : Bool → Format → Round → Bool → ℕ
greatest_code saturates f mode negative =
    if leads_out mode negative && not saturates then largest_code f + 1 else largest_code f

-- the constants for numbers with so many digits below their last whole one
pub record IsSideOf (low : ℕ) (saturates : Bool) (f : Format) (mode : Round) (negative : Bool) (side : Side)
    : Type 0 where
  pub addend : IsAddendOf low mode negative side.addend.always side.addend.if_odd
  pub greatest : side.greatest ≡ greatest_code saturates f mode negative
  pub raises : side.raises ≡ raises_overflow f mode negative

-- numbers past the largest value become what is past it
pub record LeadsPast (saturates : Bool) (mode : Round) : Type 0 where
  pub kept : saturates ≡ false
  pub out : (negative : Bool) → leads_out mode negative ≡ true
