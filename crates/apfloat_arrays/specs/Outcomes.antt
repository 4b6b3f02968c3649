-- The outcomes of conversions, and their counts.
use Rattle.std.specs.Prelude.{ℕ, min, ◌+◌, ◌-◌, ◌^◌, ◌<◌, Bool, not, ◌==◌, bit_and, if◌then◌else◌, List, length}
use Rattle.std.specs.Prelude.{count_by}
use Rattle.rustc_apfloat.specs.Flags.{bits_of}
use Rattle.apfloat_arrays.specs.declared.counts.{Outcome.Outcome, Counts.Counts}

-- whether a conversion raised this flag
abbrev pub raised : ℕ → Outcome → Bool
raised flag outcome = not (bit_and (bits_of outcome.status) flag == 0)

abbrev pub became_nan : Outcome → Bool
became_nan outcome = outcome.is_nan

-- the counts of these outcomes
abbrev pub counts_of : List Outcome → Counts
counts_of outcomes =
    record {
      values = length outcomes;
      inexact = count_by (raised 16) outcomes;
      underflow = count_by (raised 8) outcomes;
      overflow = count_by (raised 4) outcomes;
      invalid = count_by (raised 1) outcomes;
      nans = count_by became_nan outcomes;
    }

abbrev pub one_if : Bool → ℕ
one_if holds = if holds then 1 else 0

-- the counts after one more outcome
abbrev pub with_outcome : Counts → Outcome → Counts
with_outcome counts outcome =
    record {
      values = counts.values + 1;
      inexact = counts.inexact + one_if (raised 16 outcome);
      underflow = counts.underflow + one_if (raised 8 outcome);
      overflow = counts.overflow + one_if (raised 4 outcome);
      invalid = counts.invalid + one_if (raised 1 outcome);
      nans = counts.nans + one_if (became_nan outcome);
    }

-- each count can grow by 1
pub record HaveRoom (counts : Counts) : Type 0 where
  pub values : counts.values < 2 ^ 64 - 1
  pub inexact : counts.inexact < 2 ^ 64 - 1
  pub underflow : counts.underflow < 2 ^ 64 - 1
  pub overflow : counts.overflow < 2 ^ 64 - 1
  pub invalid : counts.invalid < 2 ^ 64 - 1
  pub nans : counts.nans < 2 ^ 64 - 1

-- a sum of counts that saturates at the greatest value of its type
abbrev pub sum_to_top : ℕ → ℕ → ℕ
sum_to_top count more = min (count + more) (2 ^ 64 - 1)

-- the counts of two blocks, added
abbrev pub sum_of : Counts → Counts → Counts
sum_of counts block =
    record {
      values = sum_to_top counts.values block.values;
      inexact = sum_to_top counts.inexact block.inexact;
      underflow = sum_to_top counts.underflow block.underflow;
      overflow = sum_to_top counts.overflow block.overflow;
      invalid = sum_to_top counts.invalid block.invalid;
      nans = sum_to_top counts.nans block.nans;
    }

-- the counts after the flags of a value that is counted already
abbrev pub with_flags : Counts → Outcome → Counts
with_flags counts outcome =
    record {
      values = counts.values;
      inexact = sum_to_top counts.inexact (one_if (raised 16 outcome));
      underflow = sum_to_top counts.underflow (one_if (raised 8 outcome));
      overflow = sum_to_top counts.overflow (one_if (raised 4 outcome));
      invalid = sum_to_top counts.invalid (one_if (raised 1 outcome));
      nans = sum_to_top counts.nans (one_if (became_nan outcome));
    }
