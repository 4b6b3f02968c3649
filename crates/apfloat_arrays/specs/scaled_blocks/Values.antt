-- Values in consecutive bytes.
use Rattle.std.specs.Prelude.{ℕ, zero, suc, List, [], ◌∷◌}
use Rattle.rustc_apfloat.specs.{Datum.Datum, Lawful.Constants}
use Rattle.formats_at_run_time.specs.ValueKinds.{value_of}
use Rattle.apfloat_arrays.specs.{Blocks.value_at, Bytes.number_of}

-- the value with that index, if each takes `width` bytes
abbrev pub value_in : Constants → ℕ → List ℕ → ℕ → Datum
value_in c width bytes index = value_of c (number_of (value_at width index bytes))

-- so many values from that index on
abbrev pub values_in : Constants → ℕ → List ℕ → ℕ → ℕ → List Datum
values_in c width bytes first zero = []
values_in c width bytes first (suc count) = value_in c width bytes first ∷ values_in c width bytes (suc first) count
