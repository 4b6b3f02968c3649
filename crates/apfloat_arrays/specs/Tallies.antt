-- How many results raised each flag and how many are NaNs, and such counts as the digits of one number.
use Rattle.std.specs.Prelude.{ℕ, zero, suc, ◌+◌, ◌*◌, ◌/◌, ◌%◌, ◌^◌, ◌<◌, ◌≤◌, ◌==◌, Bool, not, bit_and, List, sum_by}
use Rattle.apfloat_arrays.specs.{declared.counts.Counts.Counts, declared.tallies.Tally.Tally, Outcomes.one_if}

-- the counts of two sets of results, added
abbrev pub sum_of : Tally → Tally → Tally
sum_of some others =
    record {
      inexact = some.inexact + others.inexact;
      underflow = some.underflow + others.underflow;
      overflow = some.overflow + others.overflow;
      div_by_zero = some.div_by_zero + others.div_by_zero;
      invalid = some.invalid + others.invalid;
      nans = some.nans + others.nans;
    }

-- each count fits in its type
pub record Fits (tally : Tally) : Type 0 where
  pub inexact : tally.inexact < 2 ^ 64
  pub underflow : tally.underflow < 2 ^ 64
  pub overflow : tally.overflow < 2 ^ 64
  pub div_by_zero : tally.div_by_zero < 2 ^ 64
  pub invalid : tally.invalid < 2 ^ 64
  pub nans : tally.nans < 2 ^ 64

-- each count is at most that
pub record AreTalliesAtMost (most : ℕ) (tally : Tally) : Type 0 where
  pub inexact : tally.inexact ≤ most
  pub underflow : tally.underflow ≤ most
  pub overflow : tally.overflow ≤ most
  pub div_by_zero : tally.div_by_zero ≤ most
  pub invalid : tally.invalid ≤ most
  pub nans : tally.nans ≤ most

-- the counts as the digits of a number to the base 32
abbrev pub packed_of : Tally → ℕ
packed_of tally =
    tally.invalid + 32 * (tally.div_by_zero + 32 * (tally.overflow + 32 * (tally.underflow + 32 * (tally.inexact
    + 32 * tally.nans))))

-- the digits of a number
abbrev pub unpacked : ℕ → Tally
unpacked packed =
    record {
      inexact = packed / 32 / 32 / 32 / 32 % 32;
      underflow = packed / 32 / 32 / 32 % 32;
      overflow = packed / 32 / 32 % 32;
      div_by_zero = packed / 32 % 32;
      invalid = packed % 32;
      nans = packed / 32 / 32 / 32 / 32 / 32;
    }

-- the tally of one result, with these flags
abbrev pub tally_of : ℕ → Bool → Tally
tally_of flags is_nan =
    record {
      inexact = one_if (not (bit_and flags 16 == 0));
      underflow = one_if (not (bit_and flags 8 == 0));
      overflow = one_if (not (bit_and flags 4 == 0));
      div_by_zero = one_if (not (bit_and flags 2 == 0));
      invalid = one_if (not (bit_and flags 1 == 0));
      nans = one_if is_nan;
    }

-- the counts of so many results with that tally
abbrev pub counts_with : ℕ → Tally → Counts
counts_with values tally =
    record {
      values = values;
      inexact = tally.inexact;
      underflow = tally.underflow;
      overflow = tally.overflow;
      invalid = tally.invalid;
      nans = tally.nans;
    }

-- the tally of no result
abbrev pub nothing : Tally
nothing = record { inexact = 0; underflow = 0; overflow = 0; div_by_zero = 0; invalid = 0; nans = 0 }

-- the tally of the first results, each of which has the digits of a number
unfoldable pub total : (ℕ → ℕ) → ℕ → Tally
total marks zero = nothing
total marks (suc count) = sum_of (total marks count) (unpacked (marks count))

-- the tallies of values, added
abbrev pub tallies : {O : Type 0} → (O → Tally) → List O → Tally
tallies tally outcomes =
    record {
      inexact = sum_by (λ o. (tally o).inexact) outcomes;
      underflow = sum_by (λ o. (tally o).underflow) outcomes;
      overflow = sum_by (λ o. (tally o).overflow) outcomes;
      div_by_zero = sum_by (λ o. (tally o).div_by_zero) outcomes;
      invalid = sum_by (λ o. (tally o).invalid) outcomes;
      nans = sum_by (λ o. (tally o).nans) outcomes;
    }
