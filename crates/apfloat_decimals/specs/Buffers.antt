-- A text that was put into a buffer.
use Rattle.std.specs.Prelude.{ℕ, ◌≡◌, ◌≤◌, ◌+◌, List, ◌++◌, length, slice_index, take}
use Rattle.apfloat_decimals.specs.Texts.{AreZerosFrom}

-- the text stands from `at` to `end`, and no byte after it is changed
pub record IsStored (old : List ℕ) (at : ℕ) (text new : List ℕ) (end : ℕ) : Type 0 where
  pub taken : take end new ≡ take at old ++ text
  pub same : (i : ℕ) → end ≤ i → slice_index new i ≡ slice_index old i

-- the text stands from `at` to `end`, and all bytes after it are zeros
pub record IsPut (old : List ℕ) (at : ℕ) (text new : List ℕ) (end : ℕ) : Type 0 where
  pub taken : take end new ≡ take at old ++ text
  pub moved : end ≡ at + length text
  pub zeros : AreZerosFrom end new
