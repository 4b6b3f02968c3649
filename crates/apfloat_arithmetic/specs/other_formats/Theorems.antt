-- Each operation has at most one value and one status.
use Rattle.apfloat_model.specs.{Determined.DeterminesBoth, declared.kinds.Round.Round}
use Rattle.apfloat_model.specs.formats.{Format.Format, Datum.Datum}
use Rattle.apfloat_arithmetic.specs.other_formats.FormatOf.{IsSumTo, IsDifferenceTo, IsProductTo, IsQuotientTo}
use Rattle.apfloat_arithmetic.specs.other_formats.{FormatOf.IsFusedSumTo, RootsOf.IsRootTo}

abbrev pub HasOneSum : Type 0
HasOneSum = (f h g : Format) (mode : Round) (x y : Datum) → DeterminesBoth (IsSumTo f h g mode x y)

abbrev pub HasOneDifference : Type 0
HasOneDifference = (f h g : Format) (mode : Round) (x y : Datum) → DeterminesBoth (IsDifferenceTo f h g mode x y)

abbrev pub HasOneProduct : Type 0
HasOneProduct = (f h g : Format) (mode : Round) (x y : Datum) → DeterminesBoth (IsProductTo f h g mode x y)

abbrev pub HasOneQuotient : Type 0
HasOneQuotient = (f h g : Format) (mode : Round) (x y : Datum) → DeterminesBoth (IsQuotientTo f h g mode x y)

abbrev pub HasOneFusedSum : Type 0
HasOneFusedSum =
    (f h k g : Format) (mode : Round) (x y z : Datum) → DeterminesBoth (IsFusedSumTo f h k g mode x y z)

abbrev pub HasOneRoot : Type 0
HasOneRoot = (f g : Format) (mode : Round) (x : Datum) → DeterminesBoth (IsRootTo f g mode x)
