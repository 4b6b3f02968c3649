-- What a significand and its loss state about a magnitude.
use Rattle.std.specs.Prelude.{◌≡◌, ℕ, ◌+◌, ◌-◌, ◌*◌, ◌^◌, ◌<◌, ◌≤◌, ◌⊎◌, ℤ, pos, ◌+ℤ◌, ◌≤ℤ◌, Bool, not, ◌&&◌}
use Rattle.std.specs.Prelude.{if◌then◌else◌}
-- 2 to the power of an integer z is the fraction 2 ^ up z / 2 ^ down z
pub use borrow.Author.Differences.{up, down}
use Rattle.apfloat_model.specs.declared.loss.Loss.{Loss}
use Rattle.apfloat_model.specs.formats.Format.{Format}
use Rattle.apfloat_model.specs.declared.loss.Loss.TheVariants.{ExactlyZero, LessThanHalf, ExactlyHalf, MoreThanHalf}

-- `amount` is `significand` units plus a rest below one unit: zero, below, at or above half a unit, as the loss says
abbrev pub StandsFor : ℕ → Loss → ℕ → ℕ → Type 0
StandsFor significand ExactlyZero amount unit = amount ≡ significand * unit
StandsFor significand LessThanHalf amount unit =
    (significand * unit < amount) × (2 * amount < (2 * significand + 1) * unit)
StandsFor significand ExactlyHalf amount unit = 2 * amount ≡ (2 * significand + 1) * unit
StandsFor significand MoreThanHalf amount unit =
    ((2 * significand + 1) * unit < 2 * amount) × (amount < (significand + 1) * unit)

-- if something is lost below a significand, its unit, 2 ^ unit quanta, divides the spacing of the format there: the
-- unit is at most the quantum, or the significand has all the digits of the format
abbrev pub IsFineEnough : ℕ → ℕ → ℤ → Loss → Type 0
IsFineEnough precision significand unit loss =
    (loss ≡ ExactlyZero) ⊎ ((unit ≤ℤ pos 0) ⊎ (2 ^ (precision - 1) ≤ significand))

-- whether tininess is judged in half quanta
abbrev pub reads_halves : Format → Bool
reads_halves f = f.ieee_flags && not f.tiny_before_rounding

-- the same for a format: where tininess is judged in half quanta, the unit is at most one of them
abbrev pub IsFineFor : Format → ℕ → ℤ → Loss → Type 0
IsFineFor f significand unit loss =
    IsFineEnough f.precision significand (if reads_halves f then unit +ℤ pos 1 else unit) loss
