-- Numbers so far out of the range of a format that only the side and the sign matter: past all its values, or below
-- half of its smallest positive value.
use Rattle.std.specs.Prelude.{◌≡◌, ℕ, ◌+◌, ◌*◌, ◌^◌, ◌<◌, ◌≤◌, Bool, true, false, List, slice_get, IsSomeAnd}
use Rattle.rustc_apfloat.specs.{declared.Round.Round, Flags.bits_of, Format.Format, Datum.Datum, Datum.finite}
use Rattle.rustc_apfloat.specs.{Classes.is_nan, Rounding.IsDelivered, Lawful.Constants, Lawful.format_with}
use Rattle.rustc_apfloat.specs.{Lawful.layout_with, Layout.datum_of, Layout.IsEncodedBy}
use Rattle.apfloat_arrays.specs.{declared.converted.Converted.Converted, Outcomes.one_if}
use Rattle.small_formats.specs.declared.saturation.saturation.Overflow.{Overflow}
use Rattle.small_formats.specs.declared.saturation.saturation.Overflow.TheVariants.{Rounded, Saturated, Finite}
use Rattle.small_formats.specs.saturation.Saturation.{saturated}

-- a magnitude of amount / parts quanta that is on that side
pub record IsFarPast (g : Format) (amount parts : ℕ) : Type 0 where
  pub some : 0 < parts
  pub from : 2 ^ (g.precision + g.span) * parts ≤ amount

pub record IsLittle (amount parts : ℕ) : Type 0 where
  pub some : 0 < amount
  pub to : 2 * amount < parts

abbrev pub IsFar : Bool → Format → ℕ → ℕ → Type 0
IsFar true g amount parts = IsFarPast g amount parts
IsFar false g amount parts = IsLittle amount parts

-- the value of a conversion, from the value that a number of this sign is rounded to
abbrev pub with_overflow : Overflow → Format → Bool → Datum → Datum
with_overflow Rounded g negative rounded = rounded
with_overflow Saturated g negative rounded = saturated g (finite negative 0) rounded
with_overflow (Finite nans) g negative rounded = saturated g (finite negative 0) rounded

-- the result has the bits, the flags and the outcome of the magnitude with this sign
pub record IsAnswerTo (overflow : Overflow) (d : Constants) (mode : Round) (negative : Bool) (amount parts : ℕ)
    (answer : Converted) : Type 0 where
  pub rounded : Datum
  pub is_delivered : IsDelivered (format_with d) mode negative amount parts rounded (bits_of answer.outcome.status)
  pub is_encoded : IsEncodedBy (format_with d) (layout_with d) answer.bits
      (with_overflow overflow (format_with d) negative rounded)
  pub nan_is : answer.outcome.is_nan ≡ is_nan (with_overflow overflow (format_with d) negative rounded)

-- one result for all magnitudes on a side
abbrev pub AnswersFar : Overflow → Constants → Round → Bool → Bool → Converted → Type 0
AnswersFar overflow d mode past negative answer =
    (amount parts : ℕ) → IsFar past (format_with d) amount parts
    → IsAnswerTo overflow d mode negative amount parts answer

-- the place of that result among the four
abbrev pub far_place : Bool → Bool → ℕ
far_place past negative = 2 * one_if past + one_if negative

abbrev pub AreFarAnswers : Overflow → Constants → Round → List Converted → Type 0
AreFarAnswers overflow d mode answers =
    (past negative : Bool)
    → IsSomeAnd (slice_get answers (far_place past negative))
    (λ answer. AnswersFar overflow d mode past negative answer)

-- the bits encode a number far out of range, and the place is that of its result
pub record IsFarPlace (c d : Constants) (bits place : ℕ) : Type 0 where
  pub past : Bool
  pub negative : Bool
  pub quanta : ℕ
  pub place_is : place ≡ far_place past negative
  pub read : datum_of (format_with c) (layout_with c) bits ≡ finite negative quanta
  pub some : 0 < quanta
  pub far : IsFar past (format_with d) (quanta * 2 ^ (format_with d).scale) (2 ^ (format_with c).scale)
