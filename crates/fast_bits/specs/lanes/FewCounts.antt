-- Counts of few converted values.
use Rattle.std.specs.Prelude.{ℕ, ◌+◌, ◌≤◌, Bool, if◌then◌else◌}
use Rattle.fast_bits.specs.declared.lanes.{few_counts.FewCounts.FewCounts, lanes.Lane.Lane}

abbrev pub one_if : Bool → ℕ
one_if holds = if holds then 1 else 0

-- the counts after one more value
abbrev pub with_lane : FewCounts → Lane → FewCounts
with_lane few lane =
    record {
      inexact = few.inexact + one_if lane.inexact;
      underflow = few.underflow + one_if lane.underflow;
      overflow = few.overflow + one_if lane.overflow;
      invalid = few.invalid + one_if lane.invalid;
      nans = few.nans + one_if lane.is_nan;
    }

-- each count is at most that
pub record FewAreAtMost (most : ℕ) (few : FewCounts) : Type 0 where
  pub inexact : few.inexact ≤ most
  pub underflow : few.underflow ≤ most
  pub overflow : few.overflow ≤ most
  pub invalid : few.invalid ≤ most
  pub nans : few.nans ≤ most
