-- The magnitudes of a block.
use Rattle.std.specs.Prelude.{ℕ, max, Bool, true, ◌&&◌, List, [], ◌∷◌}
use Rattle.apfloat_model.specs.{formats.Datum.Datum, order.Classes.is_finite, order.Classes.quanta_of}

abbrev pub are_finite : List Datum → Bool
are_finite [] = true
are_finite (x ∷ xs) = is_finite x && are_finite xs

-- the greatest magnitude of finite values, in quanta; 0 if there are none
abbrev pub greatest_magnitude : List Datum → ℕ
greatest_magnitude [] = 0
greatest_magnitude (x ∷ xs) = max (quanta_of x) (greatest_magnitude xs)
