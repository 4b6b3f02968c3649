-- Square roots of numbers, by their signs.
use Rattle.std.proofs.Common.{◌≡◌, ℕ, ◌*◌, ◌^◌, ◌<◌, Bool, true, false, arith}
use Rattle.std.proofs.lemmas.Bool.{ne_eqb}
use Rattle.apfloat_model.specs.declared.kinds.Round.{Round}
use Rattle.apfloat_model.specs.formats.{Format.Format, Datum.Datum, Datum.finite, Nan.IsInvalid}
use Rattle.apfloat_model.specs.arithmetic.Roots.{IsDeliveredRoot, IsRoot}

-- the root of a positive number is rounded
pub positive_root : (format : Format) (mode : Round) (negative : Bool) (n : ℕ) (value : Datum) (status : ℕ)
    → 0 < n → negative ≡ false → IsDeliveredRoot format mode (n * 2 ^ format.scale) 1 value status
    → IsRoot format mode (finite negative n) value status
positive_root format mode b n value status p e h = rw (ne_eqb n 0 (λ z. omega (arith, z, p)), e) h

-- the root of a negative number is invalid
pub negative_root : (format : Format) (mode : Round) (negative : Bool) (n : ℕ) (value : Datum) (status : ℕ) → 0 < n
    → negative ≡ true → IsInvalid format value status → IsRoot format mode (finite negative n) value status
negative_root format mode b n value status p e h = rw (ne_eqb n 0 (λ z. omega (arith, z, p)), e) h
