-- A result that needs no rounding: a value, and the flags of its status.
use Rattle.std.specs.Prelude.{◌≡◌, ℕ}
use Rattle.apfloat_model.specs.formats.Datum.{Datum}

pub record IsAnswer (given : Datum) (flags : ℕ) (value : Datum) (status : ℕ) : Type 0 where
  pub value_is : value ≡ given
  pub status_is : status ≡ flags
