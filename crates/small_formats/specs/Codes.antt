-- What codes mean: the bits below the sign number the grid points of the precision, from zero up.
use Rattle.std.specs.Prelude.{ℕ, ◌+◌, ◌-◌, ◌*◌, ◌/◌, ◌%◌, ◌^◌, Bool, ltb, leb, if◌then◌else◌}
use Rattle.apfloat_model.specs.formats.Datum.{Datum, finite}
use Rattle.small_formats.specs.Storage.{StorageConstants}

-- The point with that index, in quanta: those without all digits, then as many at each place.
abbrev pub point : ℕ → ℕ → ℕ
point precision index =
    if ltb index (2 ^ (precision - 1)) then index
    else (2 ^ (precision - 1) + index % 2 ^ (precision - 1)) * 2 ^ (index / 2 ^ (precision - 1) - 1)

-- the index of the point significand * 2 ^ place, if the significand has all digits or the place is 0
abbrev pub index_of : ℕ → ℕ → ℕ → ℕ
index_of precision significand place = significand + place * 2 ^ (precision - 1)

-- of a code below 2 ^ bits: its sign, and the bits below it
abbrev pub is_negative_code : StorageConstants → ℕ → Bool
is_negative_code c code = leb (2 ^ (c.bits - 1)) code

abbrev pub magnitude_of : StorageConstants → ℕ → ℕ
magnitude_of c code = code % 2 ^ (c.bits - 1)

-- the number that the code means
abbrev pub datum_of : StorageConstants → ℕ → Datum
datum_of c code = finite (is_negative_code c code) (point c.precision (magnitude_of c code))

-- the number of the largest point
abbrev pub largest_index : StorageConstants → ℕ
largest_index c = 2 ^ (c.bits - 1) - 1
