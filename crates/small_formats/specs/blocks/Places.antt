-- What holds of each element of a block.
use Rattle.std.specs.Prelude.{if◌then◌else◌, ◌≡◌, ℕ, ◌+◌, ◌-◌, ◌^◌, ◌<◌, not, ◌==◌}
use Rattle.std.specs.Prelude.{bit_and, Bool, List, length, slice_get, Some, [], ◌∷◌}
use Rattle.small_formats.specs.declared.blocks.counts.Counts.{Counts}

-- the relation between what is read, what is written and its flags holds in each place
pub record AreElementsInPlaces {A B : Type 0} (Holds : A → B → ℕ → Type 0) (read : List A) (written : List B)
    (flags : List ℕ) : Type 0 where
  pub same_size : length written ≡ length read
  pub flags_size : length flags ≡ length read
  pub each : (place : ℕ) (x : A) (y : B) (status : ℕ) → slice_get read place ≡ Some x
      → slice_get written place ≡ Some y → slice_get flags place ≡ Some status → Holds x y status

abbrev pub is_raised : ℕ → ℕ → Bool
is_raised flag status = not (bit_and status flag == 0)

abbrev pub count_raised : ℕ → List ℕ → ℕ
count_raised flag [] = 0
count_raised flag (status ∷ rest) = (if is_raised flag status then 1 else 0) + count_raised flag rest

-- how many elements raised each flag
abbrev pub counts_of : List ℕ → Counts
counts_of flags =
    record {
      invalid = count_raised 1 flags;
      overflow = count_raised 4 flags;
      underflow = count_raised 8 flags;
      inexact = count_raised 16 flags;
    }

-- the counts with one more element
abbrev pub with_status : Counts → ℕ → Counts
with_status counts status =
    record {
      invalid = counts.invalid + (if is_raised 1 status then 1 else 0);
      overflow = counts.overflow + (if is_raised 4 status then 1 else 0);
      underflow = counts.underflow + (if is_raised 8 status then 1 else 0);
      inexact = counts.inexact + (if is_raised 16 status then 1 else 0);
    }

-- each count can grow by 1
pub record BlockCountsHaveRoom (counts : Counts) : Type 0 where
  pub invalid : counts.invalid < 2 ^ 64 - 1
  pub overflow : counts.overflow < 2 ^ 64 - 1
  pub underflow : counts.underflow < 2 ^ 64 - 1
  pub inexact : counts.inexact < 2 ^ 64 - 1

-- what holds in each place, and the counts
pub record AreCounted {A B : Type 0} (Holds : A → B → ℕ → Type 0) (read : List A) (written : List B)
    (counts : Counts) : Type 0 where
  pub flags : List ℕ
  pub in_places : AreElementsInPlaces Holds read written flags
  pub counted : counts ≡ counts_of flags
