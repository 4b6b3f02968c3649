-- Two results of one operation, in two modes.
use Rattle.std.specs.Prelude.{ℕ}
use Rattle.apfloat_model.specs.declared.{kinds.Round.Round, status.StatusAnd.StatusAnd}
use Rattle.rustc_apfloat.specs.{Datum.Datum, Flags.Gives, TwoModes.AreBoundsUnlessNan, TwoModes.AreOutward}

-- Each is that of its mode. They are the same where the first is exact, and bounds where the modes are downward and
-- upward.
pub record AreInModes (Is : Round → Datum → ℕ → Type 0)
    (AreSame : StatusAnd Datum → StatusAnd Datum → Type 0)
    (IsExact : ℕ → Type 0) (mode other : Round) (one two : StatusAnd Datum) : Type 0 where
  pub in_mode : Gives (Is mode) one
  pub in_other : Gives (Is other) two
  pub same : AreSame one two
  pub bounds : AreOutward mode other → AreBoundsUnlessNan IsExact one two
