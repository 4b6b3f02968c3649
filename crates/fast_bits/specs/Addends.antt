-- A number that is rounded by what is added to it.
use Rattle.std.specs.Prelude.{◌≡◌, ℕ, ◌+◌, ◌-◌, ◌/◌, ◌%◌, ◌^◌, Bool, eqb, if◌then◌else◌}
use Rattle.std.specs.Int.RustNames.{bit_and}
use Rattle.apfloat_model.specs.{declared.kinds.Round.Round, rounding.Enclosure.rounds_up}
use Rattle.apfloat_rounding.specs.Cuts.{loss_at}

-- a number with `low` binary digits below its last whole one, rounded to a whole number
abbrev pub rounded_by : ℕ → Round → Bool → ℕ → ℕ
rounded_by low mode negative t =
    if rounds_up mode negative (loss_at (t % 2 ^ low) (2 ^ (low - 1))) (eqb (t / 2 ^ low % 2) 1) then t / 2 ^ low + 1
    else t / 2 ^ low

-- what is added carries into the whole number exactly if the mode rounds up
pub record IsAddendOf (low : ℕ) (mode : Round) (negative : Bool) (always if_odd : ℕ) : Type 0 where
  pub rounds : (t : ℕ) → (t + (always + bit_and (t / 2 ^ low) if_odd)) / 2 ^ low ≡ rounded_by low mode negative t
