-- Two results of one operation, from the laws of the operation.
use Rattle.std.proofs.Common.{ℕ, subst}
use Rattle.std.specs.Prelude.{List, Result, Ok, Err}
use Rattle.apfloat_model.specs.declared.{kinds.Round.Round, parse_error.ParseError.ParseError}
use Rattle.apfloat_model.specs.declared.status.StatusAnd.{StatusAnd}
use Rattle.apfloat_model.proofs.Determined.{reading_or_refusal, refusal_once}
use Rattle.apfloat_model.proofs.rounding.ModesAgree.{AgreesWhereOk, AgreesButForZeros, reading_agrees}
use Rattle.apfloat_model.proofs.rounding.{OutwardRoundings.Encloses, OutwardResults.reading_encloses}
use Rattle.rustc_apfloat.specs.{Datum.Datum, Flags.Gives, Flags.bits_of, Format.Format, Parsing.IsRead}
use Rattle.rustc_apfloat.specs.Readings.{IsReading}
use Rattle.rustc_apfloat.specs.TwoModes.{AreSameIfOk, AreSameIfOkButForZeros, AreOutward, AreBoundsUnlessNan, IsOk}
use Rattle.tests.specs.{TwoModes.AreInModes, TwoReadings.AreReadings}

same_if_ok : (R : Round → Datum → ℕ → Type 0) → AgreesWhereOk R → (mode other : Round) (one two : StatusAnd Datum)
    → Gives (R mode) one → Gives (R other) two → AreSameIfOk one two
same_if_ok R agrees mode other one two x y = λ e.
    agrees mode other one.value two.value (bits_of two.status) (subst (λ (s : ℕ). R mode one.value s) e x) y

bounds_if_outward : (IsExact : ℕ → Type 0) (R : Round → Datum → ℕ → Type 0) → Encloses IsExact R
    → (mode other : Round) (one two : StatusAnd Datum) → Gives (R mode) one → Gives (R other) two
    → AreOutward mode other → AreBoundsUnlessNan IsExact one two
bounds_if_outward IsExact R encloses mode other one two x y o =
    encloses one.value two.value (bits_of one.status) (bits_of two.status)
    (subst (λ (m : Round). Gives (R m) one) o.downward x) (subst (λ (m : Round). Gives (R m) two) o.upward y)

pub in_modes : (IsExact : ℕ → Type 0) (R : Round → Datum → ℕ → Type 0) → AgreesWhereOk R
    → Encloses IsExact R → (mode other : Round) (one two : StatusAnd Datum) → Gives (R mode) one → Gives (R other) two
    → AreInModes R AreSameIfOk IsExact mode other one two
in_modes IsExact R agrees encloses mode other one two x y = record {
  in_mode = x;
  in_other = y;
  same = same_if_ok R agrees mode other one two x y;
  bounds = bounds_if_outward IsExact R encloses mode other one two x y;
}

-- the same of what may be an exact zero of either sign
pub but_for_zeros : (R : Round → Datum → ℕ → Type 0) → AgreesButForZeros R
    → Encloses IsOk R → (mode other : Round) (one two : StatusAnd Datum) → Gives (R mode) one → Gives (R other) two
    → AreInModes R AreSameIfOkButForZeros IsOk mode other one two
but_for_zeros R agrees encloses mode other one two x y = record {
  in_mode = x;
  in_other = y;
  same = λ e. agrees mode other one.value two.value (bits_of two.status) (subst (λ (s : ℕ). R mode one.value s) e x) y;
  bounds = bounds_if_outward IsOk R encloses mode other one two x y;
}

-- ---- readings

-- a statement about two values of a text holds of its two readings
readings_are : (format : Format) (Say : StatusAnd Datum → StatusAnd Datum → Type 0)
    (mode other : Round) (text : List ℕ) (one two : Result (StatusAnd Datum) ParseError)
    → ((a b : StatusAnd Datum) → Gives (IsReading format mode text) a → Gives (IsReading format other text) b → Say a b)
    → IsRead format mode text one → IsRead format other text two → AreReadings Say one two
readings_are format Say mode other text (Ok a) (Ok b) say x y = say a b x y
readings_are format Say mode other text (Ok a) (Err e) say x y =
    reading_or_refusal format mode text e.0.now a.value (bits_of a.status) x y
readings_are format Say mode other text (Err e) (Ok b) say x y =
    reading_or_refusal format other text e.0.now b.value (bits_of b.status) y x
readings_are format Say mode other text (Err e) (Err f) say x y = refusal_once text e.0.now f.0.now x y

pub same_readings : (format : Format) (mode other : Round) (text : List ℕ)
    (one two : Result (StatusAnd Datum) ParseError) → IsRead format mode text one → IsRead format other text two
    → AreReadings AreSameIfOk one two
same_readings format mode other text one two x y =
    readings_are format AreSameIfOk mode other text one two
    (same_if_ok (λ m. IsReading format m text) (reading_agrees format text) mode other) x y

pub reading_bounds : (format : Format) (mode other : Round) (text : List ℕ)
    (one two : Result (StatusAnd Datum) ParseError) → IsRead format mode text one → IsRead format other text two
    → AreOutward mode other → AreReadings (AreBoundsUnlessNan IsOk) one two
reading_bounds format mode other text one two x y o =
    readings_are format (AreBoundsUnlessNan IsOk) mode other text one two
    (λ a b p q. bounds_if_outward IsOk (λ m. IsReading format m text) (reading_encloses format text) mode other a b p q
    o) x y
