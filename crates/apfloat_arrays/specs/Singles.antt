-- Blocks of singles, converted by the halves of their words.
use Rattle.std.specs.Prelude.{◌≡◌, ℕ, ◌/◌, ◌%◌, ◌^◌, Bool, true, false}
use Rattle.apfloat_model.specs.rounding.RoundingToOdd.{odd_quotient}
use Rattle.fast_bits.specs.declared.lanes.{constants.Target.Target, lanes.Lane.Lane, few_counts.FewCounts.FewCounts}
use Rattle.fast_bits.specs.lanes.{At.format_at, At.layout_at, Lanes.flags_of}
use Rattle.rustc_apfloat.specs.{Lawful.Constants, Lawful.format_with, Lawful.layout_with, declared.Round.Round}
use Rattle.apfloat_arrays.specs.declared.counts.{Counts.Counts, Outcome.Outcome}
use Rattle.small_formats.specs.declared.saturation.saturation.Overflow.{Overflow}
use Rattle.small_formats.specs.declared.saturation.saturation.Overflow.TheVariants.{Rounded, Saturated, Finite}

-- whether the largest value stands for what is past it
abbrev pub saturates : Overflow → Bool
saturates Rounded = false
saturates Saturated = true
saturates (Finite nans) = true

-- a plan with that target, saturation and mode is that of conversions to the format
pub record IsPlanFor (overflow : Overflow) (d : Constants) (mode : Round) (target : Target) (by : Bool) (round : Round)
    : Type 0 where
  pub format : format_at target ≡ format_with d
  pub layout : layout_at target ≡ layout_with d
  pub saturates_is : by ≡ saturates overflow
  pub round_is : round ≡ mode

-- the number of values and the counts of a block
abbrev pub counts_with : FewCounts → ℕ → Counts
counts_with few values =
    record {
      values = values;
      inexact = few.inexact;
      underflow = few.underflow;
      overflow = few.overflow;
      invalid = few.invalid;
      nans = few.nans;
    }

abbrev pub outcome_of : Lane → Outcome
outcome_of lane = record { status = record { 0 = flags_of lane }; is_nan = lane.is_nan }

-- they are the upper and the lower half of a word
abbrev pub AreHalves : ℕ → ℕ → ℕ → Type 0
AreHalves upper lower word = (upper ≡ word / 2 ^ 16) × (lower ≡ word % 2 ^ 16)

-- the first is the upper half of a word, rounded to odd
abbrev pub IsShortHalf : ℕ → ℕ → ℕ → Type 0
IsShortHalf upper lower word = upper ≡ odd_quotient word (2 ^ 16)
