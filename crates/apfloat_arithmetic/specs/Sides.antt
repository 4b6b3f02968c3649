-- The position of a datum: below the numbers, among the negative ones, at zero, among the positive ones, above them.
use Rattle.std.specs.Prelude.{ℕ, zero, suc, Bool, if◌then◌else◌}
use Rattle.apfloat_model.specs.formats.Datum.{Datum, finite, infinite, nan}

-- the position of a nonzero number
abbrev pub number_side : Bool → ℕ
number_side negative = if negative then 1 else 3

abbrev pub side : Datum → ℕ
side (finite b zero) = 2
side (finite b (suc n)) = number_side b
side (infinite b) = if b then 0 else 4
side (nan b s) = 2
