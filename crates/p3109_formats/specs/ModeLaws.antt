-- Theorems about the formats of P3109 and the modes of conversions.
use Rattle.std.specs.Prelude.{◌≡◌, ℕ, ◌+◌, ◌-◌, ◌*◌, ◌^◌, ◌<◌, ◌≤◌, Bool, ltb}
use Rattle.apfloat_model.specs.{declared.kinds.Round.Round, formats.Datum.Datum, formats.Format.Format}
use Rattle.small_formats.specs.declared.ConversionRound.{ConversionRound, TheVariants.Ieee, TheVariants.Stochastic}
use Rattle.small_formats.specs.{declared.RandomDigits.RandomDigits, Codes.point}
use Rattle.small_formats.specs.ModeLaws.{AreAllRandom, count_below}
use Rattle.small_formats.specs.{Modes.IsPickBy, Modes.parts_above, PicksBy.IsCodePickBy, PicksBy.IsPointPickBy}
use Rattle.p3109_formats.specs.{ModeConversions.IsIntoProjectionBy, declared.descriptor.Descriptor.Descriptor}
use Rattle.p3109_formats.specs.{declared.rules.ProjectionRule.ProjectionRule, Projections.IsIntoProjection}
use Rattle.p3109_formats.specs.{Projections.IsProjection, Rules.IsRandomPick, Rules.plain_rule, Rules.rounded_parts}

-- as `IsProjectedOnce`
abbrev pub IsProjectedByOnce : Type 0
IsProjectedByOnce =
    (c : Descriptor) (f : Format) (rule : ProjectionRule) (x : Datum) (code other status flags : ℕ)
    (loses lost : Bool) → IsProjection c → code < 2 ^ c.bits → other < 2 ^ c.bits
    → IsIntoProjectionBy c f rule x code status loses → IsIntoProjectionBy c f rule x other flags lost
    → (code ≡ other) × (status ≡ flags) × (loses ≡ lost)

-- as `AreCodePicksPicks`
abbrev pub AreCodePicksPicksBy : Type 0
AreCodePicksPicksBy =
    (precision : ℕ) (mode : ConversionRound) (negative : Bool) (amount parts index : ℕ) → 2 ≤ precision
    → 0 < parts → IsCodePickBy precision mode negative amount parts index
    → IsPickBy precision mode negative amount parts (point precision index)

-- conversions by the five modes are those of `Projections`
abbrev pub AreProjectionsOfModes : Type 0
AreProjectionsOfModes =
    (c : Descriptor) (f : Format) (mode : Round) (x : Datum) (code status : ℕ) (loses : Bool)
    → IsIntoProjectionBy c f (plain_rule (Ieee mode)) x code status loses
    → IsIntoProjection c f mode x code status loses

-- as `AreRandomNumbersCounted`, between the points with the numbers `low` and `low + 1`
abbrev pub AreRandomCodesCounted : Type 0
AreRandomCodesCounted =
    (precision digits low amount parts : ℕ) (negative : Bool) (bits : ℕ → RandomDigits) (index : ℕ → ℕ)
    → 1 ≤ precision → 0 < parts → point precision low * parts < amount
    → amount < point precision (low + 1) * parts → AreAllRandom digits bits
    → ((random : ℕ) → random < 2 ^ digits
    → IsPointPickBy precision (Stochastic (bits random)) negative amount parts (index random))
    → count_below (λ random. ltb low (index random)) (2 ^ digits)
    ≡ parts_above digits (amount - point precision low * parts) (point precision (low + 1) * parts - amount)

-- and if the parts are rounded
abbrev pub AreRoundedPartsCounted : Type 0
AreRoundedPartsCounted =
    (precision digits low amount parts : ℕ) (mode : Round) (bits : ℕ → RandomDigits) (index : ℕ → ℕ)
    → 1 ≤ precision → point precision low * parts < amount → amount < point precision (low + 1) * parts
    → AreAllRandom digits bits
    → ((random : ℕ) → random < 2 ^ digits → IsRandomPick precision mode (bits random) amount parts (index random))
    → count_below (λ random. ltb low (index random)) (2 ^ digits)
    ≡ rounded_parts mode digits (amount - point precision low * parts) (point precision (low + 1) * parts - amount)
