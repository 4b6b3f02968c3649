-- The named data of a format.
use Rattle.std.specs.Prelude.{Bool, false}
use Rattle.apfloat_model.specs.formats.Format.{Format, smallest_normalized, largest, nan_base}
use Rattle.apfloat_model.specs.{formats.Datum.Datum, formats.Datum.finite, rounding.Rounding.past_largest}

abbrev pub zero_datum : Datum
zero_datum = finite false 0

abbrev pub smallest_datum : Datum
smallest_datum = finite false 1

abbrev pub smallest_normalized_datum : Format → Datum
smallest_normalized_datum f = finite false (smallest_normalized f)

abbrev pub largest_datum : Format → Datum
largest_datum f = finite false (largest f)

-- the infinity; in a format without infinities, the NaN in its place
abbrev pub infinity_of : Format → Bool → Datum
infinity_of f negative = past_largest f.nonfinite (nan_base f) negative

abbrev pub infinity_datum : Format → Datum
infinity_datum f = infinity_of f false
