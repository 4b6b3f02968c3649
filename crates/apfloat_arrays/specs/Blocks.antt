-- Values in consecutive bytes.
use Rattle.std.specs.Prelude.{◌≡◌, ℕ, ◌+◌, ◌*◌, List, length, slice_get, slice_range, IfSome}
use Rattle.apfloat_arrays.specs.{declared.counts.Outcome.Outcome, declared.counts.Counts.Counts, Outcomes.counts_of}

-- the bytes of a value, by its index, if each takes `width` bytes
abbrev pub value_at : ℕ → ℕ → List ℕ → List ℕ
value_at width index bytes = slice_range bytes (index * width) (index * width + width)

-- for each place of a value, the relation between its index, the bytes there and its outcome holds
pub record AreInPlaces {Outcomes : Type 0} (Holds : ℕ → List ℕ → Outcomes → Type 0) (width count : ℕ)
    (bytes : List ℕ) (outcomes : List Outcomes) : Type 0 where
  pub size : length outcomes ≡ count
  pub each : (index : ℕ)
      → IfSome (slice_get outcomes index) (λ outcome. Holds index (value_at width index bytes) outcome)

-- the relation between input bytes, output bytes and outcome holds for each value, in its place
pub record IsBlock (Holds : List ℕ → List ℕ → Outcome → Type 0) (source target count : ℕ)
    (input output : List ℕ) (counts : Counts) : Type 0 where
  pub outcomes : List Outcome
  pub size : length outcomes ≡ count
  pub each : (index : ℕ)
      → IfSome (slice_get outcomes index)
      (λ outcome. Holds (value_at source index input) (value_at target index output) outcome)
  pub counted : counts ≡ counts_of outcomes
