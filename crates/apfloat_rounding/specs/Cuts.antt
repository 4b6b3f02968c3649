-- What is left of a magnitude when its digits are cut once.
use Rattle.std.specs.Prelude.{◌≡◌, ℕ, ◌+◌, ◌-◌, ◌*◌, ◌^◌, ◌<◌, true, ltb, eqb, if◌then◌else◌}
use Rattle.apfloat_model.specs.declared.loss.Loss.{Loss}
use Rattle.apfloat_model.specs.declared.loss.Loss.TheVariants.{ExactlyZero, LessThanHalf, ExactlyHalf, MoreThanHalf}
use Rattle.apfloat_model.specs.{formats.Format.Format, rounding.Enclosure.IsEnclosed}
use Rattle.apfloat_model.specs.rounding.Standing.{StandsFor, reads_halves}
use Rattle.apfloat_rounding.specs.declared.rounding.Cut.{Cut}

-- the loss of a rest, in units of which the lowest kept digit is twice `half`
abbrev pub loss_at : ℕ → ℕ → Loss
loss_at rest half =
    if eqb rest 0 then ExactlyZero
    else (if ltb rest half then LessThanHalf else (if eqb rest half then ExactlyHalf else MoreThanHalf))

-- a significand of at most that precision is kept of amount / parts quanta, and the rest gives the loss below it
abbrev pub IsCut : ℕ → Cut → ℕ → ℕ → Type 0
IsCut precision cut amount parts =
    IsEnclosed precision (2 ^ (precision - 1)) cut.significand cut.place amount parts
    × StandsFor cut.significand (loss_at cut.rest cut.half) amount (2 ^ cut.place * parts)

-- Just below the smallest normalized value, a rest past half also gives the loss below that half, in half quanta, by
-- comparing its distance from the half with that from a whole quantum.
abbrev pub IsCutFinely : ℕ → Cut → ℕ → ℕ → Type 0
IsCutFinely precision cut amount parts =
    cut.significand + 1 ≡ 2 ^ (precision - 1) → cut.half < cut.rest
    → StandsFor (2 * cut.significand + 1) (loss_at (cut.rest - cut.half) (2 * cut.half - cut.rest)) (2 * amount) parts

-- the fine cut, for a format that judges tininess in half quanta
abbrev pub IsFineCut : Format → Cut → ℕ → ℕ → Type 0
IsFineCut f cut amount parts = reads_halves f ≡ true → IsCutFinely f.precision cut amount parts
