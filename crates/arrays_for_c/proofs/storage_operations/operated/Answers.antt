use Rattle.std.proofs.Common.{◌≡◌, ℕ, refl, ap, ◌∙◌}
use Rattle.apfloat_model.specs.rounding.{Outcome.exactly, Rounding.ok_bits}
use Rattle.rustc_apfloat.specs.{declared.Round.Round, Datum.Datum, Flags.bits_of}
use Rattle.small_formats.specs.{Arithmetic.IsStored, Codes.datum_of, Storage.StorageConstants, Types.constants_of}
use Rattle.arrays_for_c.proofs.storage_operations.operated.Goals as goal

-- a number is stored as it is
exactly_stored : (c : StorageConstants) (mode : Round) (x : Datum) (code status : ℕ) → datum_of c code ≡ x
    → status ≡ ok_bits → IsStored c mode (exactly x) code status
exactly_stored c mode x code status value_is status_is =
    record {
      value = datum_of c code;
      yields = record { value_is = value_is; status_is = status_is };
      value_is = refl;
    }

pub returns-in-Minimum : goal.returns-in-Minimum
returns-in-Minimum g c =
    let d = constants_of g.F.StorageFormat in
    rw c.in-Minimum.is
    (exactly_stored d c.args.round _ _ _ (ap (datum_of d) c.and.ensures.value ∙ c.minimum.ensures)
    (ap bits_of c.and.ensures.status))

pub returns-in-Maximum : goal.returns-in-Maximum
returns-in-Maximum g c =
    let d = constants_of g.F.StorageFormat in
    let made = c.and-in-Maximum.ensures in
    rw c.in-Maximum.is
    (exactly_stored d c.args.round _ _ _ (ap (datum_of d) made.value ∙ c.maximum.ensures) (ap bits_of made.status))
