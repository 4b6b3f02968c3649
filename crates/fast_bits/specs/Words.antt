-- What a mode does with significands in words.
use Rattle.std.specs.Prelude.{◌≡◌, ℕ, ◌+◌, ◌^◌, ◌<◌, ◌≤◌, Bool}
use Rattle.apfloat_model.specs.{declared.kinds.Round.Round, rounding.Rounding.leads_out}
use Rattle.fast_bits.specs.Addends.{IsAddendOf}
use Rattle.fast_bits.specs.declared.{addends.LongAddend.LongAddend, words.WordSide.WordSide}

-- what is added to numbers of one sign that have `low` binary digits below their last kept one
pub record IsLongAddend (low : ℕ) (mode : Round) (negative : Bool) (addend : LongAddend) : Type 0 where
  pub rounds : IsAddendOf low mode negative addend.always addend.if_odd
  pub below : addend.always + addend.if_odd < 2 ^ low
  pub one : addend.if_odd ≤ 1

-- what a mode does with them
pub record IsWordSide (low : ℕ) (mode : Round) (negative : Bool) (side : WordSide) : Type 0 where
  pub addend : IsLongAddend low mode negative side.addend
  pub out : side.leads_out ≡ leads_out mode negative
