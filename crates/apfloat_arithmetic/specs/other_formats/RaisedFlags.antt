-- OVERFLOW and UNDERFLOW are raised only together with INEXACT, by each operation that delivers in another format.
use Rattle.std.specs.Prelude.{ℕ}
use Rattle.apfloat_model.specs.{declared.kinds.Round.Round, formats.Format.Format, formats.Datum.Datum}
use Rattle.apfloat_model.specs.rounding.RaisedFlags.{FlagsGoTogether}
use Rattle.apfloat_arithmetic.specs.other_formats.FormatOf.{IsSumTo, IsDifferenceTo, IsProductTo, IsQuotientTo}
use Rattle.apfloat_arithmetic.specs.other_formats.{FormatOf.IsFusedSumTo, RootsOf.IsRootTo}

abbrev pub RaisesTogether : (Datum → ℕ → Type 0) → Type 0
RaisesTogether Says = (value : Datum) (status : ℕ) → Says value status → FlagsGoTogether status

-- of all formatOf operations (5.4.1) with results in the format g
pub record FormatOfFlagsGoTogether (g : Format) : Type 0 where
  pub sum : (f h : Format) (mode : Round) (x y : Datum) → RaisesTogether (IsSumTo f h g mode x y)
  pub difference : (f h : Format) (mode : Round) (x y : Datum) → RaisesTogether (IsDifferenceTo f h g mode x y)
  pub product : (f h : Format) (mode : Round) (x y : Datum) → RaisesTogether (IsProductTo f h g mode x y)
  pub quotient : (f h : Format) (mode : Round) (x y : Datum) → RaisesTogether (IsQuotientTo f h g mode x y)
  pub fused_sum : (f h k : Format) (mode : Round) (x y z : Datum) → RaisesTogether (IsFusedSumTo f h k g mode x y z)
  pub root : (f : Format) (mode : Round) (x : Datum) → RaisesTogether (IsRootTo f g mode x)
