-- The rules of conversions into a format of P3109: how a number is rounded, and what becomes of what is past the
-- largest one.
use Rattle.std.specs.Prelude.{ℕ, ◌+◌, ◌-◌, ◌*◌, ◌/◌, ◌%◌, ◌^◌, Bool, true, false, leb, eqb, if◌then◌else◌}
use Rattle.apfloat_model.specs.{declared.kinds.Round.TheVariants.NearestTiesToEven, formats.Datum.finite}
use Rattle.apfloat_model.specs.{rounding.Rounding.inexact_bit, whole_numbers.WholeNumbers.whole_pick}
use Rattle.apfloat_model.specs.declared.kinds.Round.{Round, TheVariants.NearestTiesToAway}
use Rattle.small_formats.specs.{declared.RandomDigits.RandomDigits, Codes.point, IndexPicks.IsIndexPick}
use Rattle.small_formats.specs.{Modes.ieee_mode, PicksBy.IsPointPickBy}
use Rattle.small_formats.specs.declared.ConversionRound.{ConversionRound, TheVariants.Ieee}
use Rattle.p3109_formats.specs.declared.{descriptor.Descriptor.Descriptor, rules.ProjectionRound.ProjectionRound}
use Rattle.p3109_formats.specs.declared.rules.{ProjectionRule.ProjectionRule, Saturation.Saturation}
use Rattle.p3109_formats.specs.declared.rules.ProjectionRound.TheVariants.{By, StochasticB, StochasticC}
use Rattle.p3109_formats.specs.declared.rules.Saturation.TheVariants.{Overflow, Finite, Propagate}
use Rattle.p3109_formats.specs.Projections.{IsCodeOf, IsInfinityOf, largest_index}

-- The parts that a magnitude is above its lower neighbour, of 2 ^ digits between the two, rounded in that mode to a
-- whole number. `parts_above` are those toward zero.
abbrev pub rounded_parts : Round → ℕ → ℕ → ℕ → ℕ
rounded_parts mode digits below_by above_by = whole_pick mode false (2 ^ digits * below_by) (below_by + above_by)

-- whether they and the random number are together the whole distance
abbrev pub reaches_next : Round → RandomDigits → ℕ → ℕ → Bool
reaches_next mode bits below_by above_by =
    leb (2 ^ bits.digits) (rounded_parts mode bits.digits below_by above_by + bits.random)

-- what is odd makes no difference to random digits
abbrev pub IsRandomPick : ℕ → Round → RandomDigits → ℕ → ℕ → ℕ → Type 0
IsRandomPick precision mode bits amount parts index =
    IsIndexPick (λ below_by above_by odd. reaches_next mode bits below_by above_by) (point precision) amount parts index

-- the index of the point that is picked
abbrev pub IsRulePick : ℕ → ProjectionRound → Bool → ℕ → ℕ → ℕ → Type 0
IsRulePick precision (By mode) negative amount parts index = IsPointPickBy precision mode negative amount parts index
IsRulePick precision (StochasticB bits) negative amount parts index =
    IsRandomPick precision NearestTiesToAway bits amount parts index
IsRulePick precision (StochasticC bits) negative amount parts index =
    IsRandomPick precision NearestTiesToEven bits amount parts index

-- the mode of IEEE 754 that treats a pick past the largest number alike
abbrev pub round_of : ProjectionRound → Round
round_of (By mode) = ieee_mode mode
round_of (StochasticB bits) = NearestTiesToEven
round_of (StochasticC bits) = NearestTiesToEven

-- what a number past the largest one becomes: what is past it, or the largest one
abbrev pub passes : Saturation → Bool → Bool
passes Overflow leads = leads
passes Finite leads = false
passes Propagate leads = false

abbrev pub IsInfinityBy : Saturation → Descriptor → Bool → ℕ → ℕ → Bool → Type 0
IsInfinityBy Overflow c negative code status loses_info = IsInfinityOf c negative code status loses_info
IsInfinityBy Finite c negative code status loses_info =
    IsCodeOf c (finite negative (point c.precision (largest_index c))) inexact_bit true code status loses_info
IsInfinityBy Propagate c negative code status loses_info = IsInfinityOf c negative code status loses_info

abbrev pub plain_rule : ConversionRound → ProjectionRule
plain_rule mode = record { round = By mode; saturation = Overflow }
