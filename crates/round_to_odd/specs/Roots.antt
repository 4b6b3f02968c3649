-- Square roots that are rounded to odd, and rounded again to another format. A root need not be a fraction, so these
-- statements begin with the answer toward zero, as `to_odd` does.
use Rattle.std.specs.Prelude.{ℕ, ◌<◌, ◌≤◌, false}
use Rattle.apfloat_model.specs.declared.kinds.Round.{Round, TheVariants.TowardZero}
use Rattle.apfloat_model.specs.{declared.status.StatusAnd.StatusAnd, formats.Format.Format, formats.Datum.Datum}
use Rattle.apfloat_model.specs.{formats.Datum.finite, rounding.Flags.Gives, arithmetic.Roots.IsRoot}
use Rattle.apfloat_arithmetic.specs.other_formats.RootsOf.{IsRootTo}
use Rattle.round_to_odd.specs.{Odd.IsAnswerMadeOdd, Again.HasRoomFor, Again.IsRoundedAgain}

-- the root of a positive number of the format h, rounded to odd in f, and then to g, is that root rounded once to g
abbrev pub IsRootRoundedOnce : Type 0
IsRootRoundedOnce =
    (h f g : Format) (mode : Round) (quanta : ℕ) (toward first answer : StatusAnd Datum)
    → 3 ≤ g.precision → HasRoomFor g f → 0 < quanta
    → Gives (IsRootTo h f TowardZero (finite false quanta)) toward → IsAnswerMadeOdd f false toward first
    → Gives (IsRoundedAgain f g mode first) answer
    → Gives (IsRootTo h g mode (finite false quanta)) answer

-- the same of a number of f itself
abbrev pub IsOwnRootRoundedOnce : Type 0
IsOwnRootRoundedOnce =
    (f g : Format) (mode : Round) (quanta : ℕ) (toward first answer : StatusAnd Datum)
    → 3 ≤ g.precision → HasRoomFor g f → 0 < quanta
    → Gives (IsRoot f TowardZero (finite false quanta)) toward → IsAnswerMadeOdd f false toward first
    → Gives (IsRoundedAgain f g mode first) answer
    → Gives (IsRootTo f g mode (finite false quanta)) answer
