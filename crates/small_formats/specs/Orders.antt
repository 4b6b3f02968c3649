-- The order of stored numbers is that of what their codes mean.
use Rattle.std.specs.{Prelude.ℕ, declared.cmp.Ordering.Ordering}
use Rattle.std.specs.Ordering.{bool_cmp, int_cmp, ordering_then}
use Rattle.apfloat_model.specs.order.Order.{number}
use Rattle.small_formats.specs.{Codes.datum_of, Codes.is_negative_code, Storage.StorageConstants}

-- as `compared` of the model, which is never None here
abbrev pub compared_codes : StorageConstants → ℕ → ℕ → Ordering
compared_codes c x y = int_cmp (number (datum_of c x)) (number (datum_of c y))

-- in the total order -0 is below +0
abbrev pub total_codes : StorageConstants → ℕ → ℕ → Ordering
total_codes c x y = ordering_then (compared_codes c x y) (bool_cmp (is_negative_code c y) (is_negative_code c x))
