-- A square root, divided by a number, and rounded once (IEEE 754-2019 5.4.1).
--
-- No root is computed here: a number is compared with the root by their squares. The root is that of an integer,
-- `square`, divided by `parts`. The root of n quanta is the number of quanta whose square is n * 2 ^ scale, since the
-- quantum is 2 ^ -scale; the root of a number of another format need not be that of an integer, so there are parts.
use Rattle.std.specs.Prelude.{◌≡◌, ℕ, ◌+◌, ◌-◌, ◌*◌, ◌/◌, ◌%◌, ◌^◌, ◌≤◌, Bool, true, false, not, ◌&&◌, ◌||◌, ltb, leb}
use Rattle.std.specs.Prelude.{eqb, if◌then◌else◌}
use Rattle.apfloat_model.specs.declared.kinds.Round.{Round}
use Rattle.apfloat_model.specs.formats.{Format.Format, Format.smallest_normalized, Format.largest, Datum.Datum}
use Rattle.apfloat_model.specs.rounding.{Grid.IsOnGrid, Rounding.takes_above, Rounding.ok_bits, Rounding.overflow_bit}
use Rattle.apfloat_model.specs.rounding.Rounding.{underflow_bit, inexact_bit, raises_overflow, delivered_value}

-- the square of `point` times `parts`, which compares with `square` as the point with the root
abbrev pub square_of : ℕ → ℕ → ℕ
square_of point parts = (point * parts) * (point * parts)

-- the greatest grid point that is not above the root
pub record IsBelowRoot (precision point square parts : ℕ) : Type 0 where
  pub on_grid : IsOnGrid precision point
  pub not_above : square_of point parts ≤ square
  pub greatest : (other : ℕ) → IsOnGrid precision other → square_of other parts ≤ square → other ≤ point

-- the least grid point that is not below the root
pub record IsAboveRoot (precision point square parts : ℕ) : Type 0 where
  pub on_grid : IsOnGrid precision point
  pub not_below : square ≤ square_of point parts
  pub least : (other : ℕ) → IsOnGrid precision other → square ≤ square_of other parts → point ≤ other

-- A mode to nearest takes the neighbour above if the root is above the midpoint: if twice the root is above the sum of
-- both neighbours, so 4 * square above what compares with it as that sum.
abbrev pub root_between : Round → ℕ → ℕ → ℕ → ℕ → ℕ
root_between mode below above square parts =
    if takes_above mode false (4 * square) (square_of (below + above) parts) (eqb (below / (above - below) % 2) 1)
    then above else below

-- the neighbour of the root that the mode picks
pub record IsRootPick (precision : ℕ) (mode : Round) (square parts pick : ℕ) : Type 0 where
  pub below : ℕ
  pub above : ℕ
  pub is_below : IsBelowRoot precision below square parts
  pub is_above : IsAboveRoot precision above square parts
  pub is : pick ≡ root_between mode below above square parts

-- Whether the root, rounded to `precision` digits with an unbounded exponent, is below the smallest normalized number,
-- which is 2 ^ precision half quanta; the number before it, with all digits, is one half quantum less.
abbrev pub root_rounds_below_normal : ℕ → Round → ℕ → ℕ → Bool
root_rounds_below_normal precision mode square parts =
    leb (4 * square) (square_of (2 ^ precision - 1) parts)
    || (ltb (4 * square) (square_of (2 ^ precision) parts)
    && not (takes_above mode false (4 * (4 * square)) (square_of (2 ^ precision - 1 + 2 ^ precision) parts) true))

-- whether an inexact root is tiny (7.5), by the same three rules as any other result
abbrev pub is_tiny_root : Format → Round → ℕ → ℕ → ℕ → Bool
is_tiny_root f mode square parts pick =
    if f.tiny_before_rounding then ltb square (square_of (smallest_normalized f) parts)
    else (if f.ieee_flags then root_rounds_below_normal f.precision mode square parts
    else ltb pick (smallest_normalized f))

abbrev pub root_status : Format → Round → ℕ → ℕ → ℕ → ℕ
root_status f mode square parts pick =
    if ltb (largest f) pick
    then (if raises_overflow f mode false then overflow_bit + inexact_bit else inexact_bit)
    else (if eqb (square_of pick parts) square then ok_bits
    else (if is_tiny_root f mode square parts pick then underflow_bit + inexact_bit else inexact_bit))

-- the root of `square`, divided by `parts`, in quanta, rounded once
pub record IsDeliveredRoot (f : Format) (mode : Round) (square parts : ℕ) (value : Datum) (status : ℕ) : Type 0 where
  pub pick : ℕ
  pub is_pick : IsRootPick f.precision mode square parts pick
  pub value_is : value ≡ delivered_value f mode false pick
  pub status_is : status ≡ root_status f mode square parts pick
