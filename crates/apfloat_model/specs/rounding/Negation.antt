-- The negation of a mode and of a value.
use Rattle.std.specs.Prelude.{ℕ, Bool, not, eqb, if◌then◌else◌}
use Rattle.apfloat_model.specs.declared.kinds.Round.{Round, TheVariants.NearestTiesToEven, TheVariants.TowardPositive}
use Rattle.apfloat_model.specs.declared.kinds.Round.TheVariants.{TowardNegative, TowardZero, NearestTiesToAway}
use Rattle.apfloat_model.specs.declared.kinds.NonfiniteBehavior.{NonfiniteBehavior}
use Rattle.apfloat_model.specs.declared.kinds.NonfiniteBehavior.TheVariants.{IEEE754, NanOnly, NanNegativeZero}
use Rattle.apfloat_model.specs.formats.Datum.{Datum, finite, infinite, nan}

abbrev pub swapped : Round → Round
swapped TowardPositive = TowardNegative
swapped TowardNegative = TowardPositive
swapped NearestTiesToEven = NearestTiesToEven
swapped TowardZero = TowardZero
swapped NearestTiesToAway = NearestTiesToAway

abbrev pub negated_zero : NonfiniteBehavior → Bool → Datum
negated_zero IEEE754 negative = finite (not negative) 0
negated_zero NanOnly negative = finite (not negative) 0
negated_zero NanNegativeZero negative = finite negative 0

abbrev pub negated_nan : NonfiniteBehavior → Bool → ℕ → Datum
negated_nan IEEE754 negative significand = nan (not negative) significand
negated_nan NanOnly negative significand = nan (not negative) significand
negated_nan NanNegativeZero negative significand = nan negative significand

abbrev pub negated : NonfiniteBehavior → Datum → Datum
negated kind (finite negative quanta) = if eqb quanta 0 then negated_zero kind negative
    else finite (not negative) quanta
negated kind (infinite negative) = infinite (not negative)
negated kind (nan negative significand) = negated_nan kind negative significand
