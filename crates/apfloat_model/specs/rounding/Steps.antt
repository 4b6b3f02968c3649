-- Chains of roundings: each step's result decides the next one.
use Rattle.std.specs.Prelude.{◌≡◌, ℕ}
use Rattle.apfloat_model.specs.{declared.kinds.Round.Round, formats.Format.Format, formats.Datum.Datum}
use Rattle.apfloat_model.specs.rounding.{RaisedFlags.FlagsGoTogether, Outcome.Outcome, Outcome.Yields, Outcome.IsSound}

pub data Steps (A : Type 0) : Type 0 where
  -- a result with its flags
  ends : A → ℕ → Steps A
  -- an outcome, and the steps for its datum and its flags
  after : Outcome → (Datum → ℕ → Steps A) → Steps A

abbrev pub Leads : {A : Type 0} → Format → Round → Steps A → A → ℕ → Type 0
Leads {A} f mode (ends given flags) value status = (value ≡ given) × (status ≡ flags)
Leads {A} f mode (after outcome next) value status =
    (datum : Datum) × (flags : ℕ) × Yields f mode outcome datum flags × Leads f mode (next datum flags) value status

abbrev pub AreSound : {A : Type 0} → Steps A → Type 0
AreSound {A} (ends given flags) = FlagsGoTogether flags
AreSound {A} (after outcome next) =
    IsSound outcome × ((datum : Datum) (flags : ℕ) → FlagsGoTogether flags → AreSound (next datum flags))
