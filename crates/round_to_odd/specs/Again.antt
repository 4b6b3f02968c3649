-- A result that was rounded to odd, rounded again to another format.
use Rattle.std.specs.Prelude.{◌≡◌, ℕ, ◌+◌, ◌*◌, ◌^◌, ◌<◌, ◌≤◌, Bool, if◌then◌else◌}
use Rattle.std.specs.Int.RustNames.{bit_or}
use Rattle.bitflags.specs.Sets.{without}
use Rattle.apfloat_model.specs.declared.kinds.{Round.Round, NonfiniteBehavior.TheVariants.IEEE754}
use Rattle.apfloat_model.specs.{declared.status.StatusAnd.StatusAnd, formats.Format.Format, formats.Datum.Datum}
use Rattle.apfloat_model.specs.rounding.{Flags.Gives, Flags.bits_of, Standing.reads_halves, Rounding.IsDelivered}
use Rattle.apfloat_model.specs.{rounding.Rounding.underflow_bit, arithmetic.Conversions.IsConversion}
use Rattle.round_to_odd.specs.Odd.{IsToOdd}

-- the flags of the second rounding, and those of the first but UNDERFLOW
abbrev pub joined : ℕ → ℕ → ℕ
joined again first = bit_or again (without 8 first underflow_bit)

-- The first result, of the format f, is converted to the format g, with the flags of both. A NaN, an infinity and a
-- zero are converted like any other: a zero keeps its sign if g has it.
pub record IsRoundedAgain (f g : Format) (mode : Round) (first : StatusAnd Datum) (value : Datum)
    (status : ℕ) : Type 0 where
  pub again : ℕ
  pub loses_info : Bool
  pub is_conversion : IsConversion f g mode first.value value again loses_info
  pub status_is : status ≡ joined again (bits_of first.status)

-- The format f has room for a result of the format g that was rounded to odd: two digits more, a quantum of at most a
-- quarter (of an eighth, where g judges tininess after rounding as IEEE 754 asks), and a greatest exponent that is not
-- below. Both raise flags by the same rule.
pub record HasRoomFor (g f : Format) : Type 0 where
  pub kind : f.nonfinite ≡ IEEE754
  pub digits : g.precision + 2 ≤ f.precision
  pub quantum : g.scale + (if reads_halves g then 3 else 2) ≤ f.scale
  pub exponents : g.precision + g.span + f.scale ≤ f.precision + f.span + g.scale
  pub flags : f.ieee_flags ≡ g.ieee_flags

-- a nonzero exact result that is rounded to odd in f, and then to g, is the exact result rounded once to g
abbrev pub IsRoundedOnce : Type 0
IsRoundedOnce =
    (f g : Format) (mode : Round) (negative : Bool) (amount parts : ℕ) (first answer : StatusAnd Datum)
    → 3 ≤ g.precision → HasRoomFor g f → 0 < amount → 0 < parts → Gives (IsToOdd f negative amount parts) first
    → Gives (IsRoundedAgain f g mode first) answer
    → Gives (IsDelivered g mode negative (amount * 2 ^ g.scale) (parts * 2 ^ f.scale)) answer

-- the second rounding has one answer
abbrev pub IsRoundedAgainOnce : Type 0
IsRoundedAgainOnce =
    (f g : Format) (mode : Round) (first answer other : StatusAnd Datum)
    → Gives (IsRoundedAgain f g mode first) answer → Gives (IsRoundedAgain f g mode first) other → answer ≡ other
