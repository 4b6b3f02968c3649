-- A value without a format, as an operation that delivers in another format sees it.
use Rattle.std.specs.Prelude.{ℕ, Bool, false, not}
use Rattle.apfloat_model.specs.formats.{Format.Format, Datum.Datum, Datum.finite, Datum.infinite, Datum.nan}
use Rattle.apfloat_model.specs.{formats.Nan.is_signaling, arithmetic.Conversions.converted_nan}

pub data Extended : Type 0 where
  -- a sign, and the number amount * 2 ^ -places
  number : Bool → ℕ → ℕ → Extended
  infinity : Bool → Extended
  -- whether a NaN is signaling, and the NaN of the other format that it becomes
  not_number : Bool → Datum → Extended

-- a datum of f, as an operation that delivers in g sees it
abbrev pub seen : Format → Format → Datum → Extended
seen f g (finite negative quanta) = number negative quanta f.scale
seen f g (infinite negative) = infinity negative
seen f g (nan negative significand) = not_number (is_signaling f significand) (converted_nan f g negative significand)

abbrev pub signals : Extended → Bool
signals (number negative amount places) = false
signals (infinity negative) = false
signals (not_number signaling given) = signaling

-- a NaN is not negated
abbrev pub opposite : Extended → Extended
opposite (number negative amount places) = number (not negative) amount places
opposite (infinity negative) = infinity (not negative)
opposite (not_number signaling given) = not_number signaling given
