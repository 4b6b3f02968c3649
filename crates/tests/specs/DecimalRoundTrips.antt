-- A value that is read back from its shortest decimal.
use Rattle.std.specs.Prelude.{◌≡◌, Some}
use Rattle.apfloat_model.specs.declared.{kinds.Round.TheVariants.NearestTiesToEven, status.StatusAnd.StatusAnd}
use Rattle.apfloat_model.specs.{formats.Datum.Datum, formats.Format.Format, rounding.Flags.Gives}
use Rattle.apfloat_decimals.specs.{declared.decimal.Decimal.Decimal, Decimals.IsDecimalDelivery}
use Rattle.apfloat_decimals.specs.ShortestSearch.{GivesShortest}

-- the value again, with the status of rounding its shortest decimal
pub record IsReadBack (f : Format) (x : Datum) (answer : StatusAnd Datum) : Type 0 where
  pub decimal : Decimal
  pub shortest : GivesShortest f x (Some decimal)
  pub rounded : Gives (IsDecimalDelivery f NearestTiesToEven decimal.negative decimal.digits decimal.exponent) answer
  pub value : answer.value ≡ x
