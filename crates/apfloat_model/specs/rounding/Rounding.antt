-- One rounding: the neighbour that a mode picks, and the value and status that are delivered.
use Rattle.std.specs.Prelude.{◌≡◌, ℕ, ◌+◌, ◌-◌, ◌*◌, ◌/◌, ◌%◌, ◌^◌, Bool, true, false, not, ◌&&◌, ◌||◌, ltb, leb, eqb}
use Rattle.std.specs.Prelude.{if◌then◌else◌}
use Rattle.apfloat_model.specs.declared.kinds.Round.{Round, TheVariants.NearestTiesToEven, TheVariants.TowardPositive}
use Rattle.apfloat_model.specs.declared.kinds.Round.TheVariants.{TowardNegative, TowardZero, NearestTiesToAway}
use Rattle.apfloat_model.specs.declared.kinds.NonfiniteBehavior.{NonfiniteBehavior}
use Rattle.apfloat_model.specs.declared.kinds.NonfiniteBehavior.TheVariants.{IEEE754, NanOnly, NanNegativeZero}
use Rattle.apfloat_model.specs.formats.Format.{Format, smallest_normalized, largest, nan_base}
use Rattle.apfloat_model.specs.formats.Datum.{Datum, finite, infinite, nan}
use Rattle.apfloat_model.specs.rounding.Grid.{IsBelow, IsAbove}

-- whether a directed mode rounds magnitudes of that sign up, away from zero; false for the modes to nearest
abbrev pub points_away : Round → Bool → Bool
points_away TowardZero negative = false
points_away TowardPositive negative = not negative
points_away TowardNegative negative = negative
points_away NearestTiesToEven negative = false
points_away NearestTiesToAway negative = false

-- Whether the mode takes the neighbour above. `below_by` is how far the lower neighbour is below the magnitude,
-- `above_by` how far the upper one is above it; `odd` says that the lower one is an odd multiple of their distance.
abbrev pub takes_above : Round → Bool → ℕ → ℕ → Bool → Bool
takes_above TowardZero negative below_by above_by odd = points_away TowardZero negative
takes_above TowardPositive negative below_by above_by odd = points_away TowardPositive negative
takes_above TowardNegative negative below_by above_by odd = points_away TowardNegative negative
takes_above NearestTiesToEven negative below_by above_by odd = ltb above_by below_by || (eqb above_by below_by && odd)
takes_above NearestTiesToAway negative below_by above_by odd = leb above_by below_by

abbrev pub pick_between : Round → Bool → ℕ → ℕ → ℕ → ℕ → ℕ
pick_between mode negative below above amount parts =
    if takes_above mode negative (amount - below * parts) (above * parts - amount)
    (eqb (below / (above - below) % 2) 1) then above else below

pub record IsPick (precision : ℕ) (mode : Round) (negative : Bool) (amount parts pick : ℕ) : Type 0 where
  pub below : ℕ
  pub above : ℕ
  pub is_below : IsBelow precision below amount parts
  pub is_above : IsAbove precision above amount parts
  pub is : pick ≡ pick_between mode negative below above amount parts

-- the flags of a status, as bits
abbrev pub ok_bits : ℕ
ok_bits = 0

abbrev pub overflow_bit : ℕ
overflow_bit = 4

abbrev pub underflow_bit : ℕ
underflow_bit = 8

abbrev pub inexact_bit : ℕ
inexact_bit = 16

-- whether the mode delivers the value past the largest one if the pick is above the largest
abbrev pub leads_out : Round → Bool → Bool
leads_out TowardZero negative = false
leads_out TowardPositive negative = not negative
leads_out TowardNegative negative = negative
leads_out NearestTiesToEven negative = true
leads_out NearestTiesToAway negative = true

-- the value past the largest one
abbrev pub past_largest : NonfiniteBehavior → ℕ → Bool → Datum
past_largest IEEE754 nan_base negative = infinite negative
past_largest NanOnly nan_base negative = nan negative nan_base
past_largest NanNegativeZero nan_base negative = nan false nan_base

-- the sign of a zero
abbrev pub zero_sign : NonfiniteBehavior → Bool → Bool
zero_sign IEEE754 negative = negative
zero_sign NanOnly negative = negative
zero_sign NanNegativeZero negative = false

-- `quanta` quanta with that sign; a zero may lose it
abbrev pub signed_quanta : NonfiniteBehavior → Bool → ℕ → Datum
signed_quanta kind negative quanta = if eqb quanta 0 then finite (zero_sign kind negative) 0
    else finite negative quanta

-- Whether the magnitude, rounded to `precision` digits with an unbounded exponent, is below the smallest normalized
-- number. That number is 2 ^ precision half quanta; just below it, numbers with all digits are half a quantum apart.
abbrev pub rounds_below_normal : ℕ → Round → Bool → ℕ → ℕ → Bool
rounds_below_normal precision mode negative amount parts =
    leb (2 * amount) ((2 ^ precision - 1) * parts)
    || (ltb (2 * amount) (2 ^ precision * parts)
    && not (takes_above mode negative (2 * amount - (2 ^ precision - 1) * parts)
    (2 ^ precision * parts - 2 * amount) true))

-- whether an inexact result is tiny (7.5): by its exact magnitude; rounded with an unbounded exponent; or by the pick
abbrev pub is_tiny : Format → Round → Bool → ℕ → ℕ → ℕ → Bool
is_tiny f mode negative amount parts pick =
    if f.tiny_before_rounding then ltb amount (smallest_normalized f * parts)
    else (if f.ieee_flags then rounds_below_normal f.precision mode negative amount parts
    else ltb pick (smallest_normalized f))

-- whether a pick past the largest value raises OVERFLOW: by 7.4 in each mode, otherwise where the mode leads out
abbrev pub raises_overflow : Format → Round → Bool → Bool
raises_overflow f mode negative = f.ieee_flags || leads_out mode negative

abbrev pub delivered_value : Format → Round → Bool → ℕ → Datum
delivered_value f mode negative pick =
    if ltb (largest f) pick
    then (if leads_out mode negative then past_largest f.nonfinite (nan_base f) negative
    else finite negative (largest f))
    else signed_quanta f.nonfinite negative pick

abbrev pub delivered_status : Format → Round → Bool → ℕ → ℕ → ℕ → ℕ
delivered_status f mode negative amount parts pick =
    if ltb (largest f) pick
    then (if raises_overflow f mode negative then overflow_bit + inexact_bit else inexact_bit)
    else (if eqb (pick * parts) amount then ok_bits
    else (if is_tiny f mode negative amount parts pick then underflow_bit + inexact_bit else inexact_bit))

-- the magnitude amount / parts quanta with that sign, rounded once
pub record IsDelivered (f : Format) (mode : Round) (negative : Bool) (amount parts : ℕ) (value : Datum)
    (status : ℕ) : Type 0 where
  pub pick : ℕ
  pub is_pick : IsPick f.precision mode negative amount parts pick
  pub value_is : value ≡ delivered_value f mode negative pick
  pub status_is : status ≡ delivered_status f mode negative amount parts pick
