-- The class and the sign of a scale.
use Rattle.std.proofs.Common.{◌≡◌, ℕ, ◌^◌, Bool, true, false, eqb, if◌then◌else◌, refl}
use Rattle.rustc_apfloat.specs.{Classes.is_negative, Datum.Datum, Datum.finite, Datum.nan}
use Rattle.small_formats.specs.{Scales.scale_of, declared.saturation.ValueClass.TheVariants.Number}
use Rattle.small_formats.specs.{declared.saturation.ValueClass.TheVariants.NotANumber, saturation.Saturation.class_of}

abbrev scale_if : Bool → ℕ → Datum
scale_if none code = if none then nan false 0 else finite false (2 ^ code)

class_nan_if : (none : Bool) (code : ℕ) → none ≡ true → NotANumber ≡ class_of (scale_if none code)
class_nan_if true code e = refl
class_nan_if false code e = cc

class_number_if : (none : Bool) (code : ℕ) → none ≡ false → Number ≡ class_of (scale_if none code)
class_number_if true code e = cc
class_number_if false code e = refl

sign_if : (none : Bool) (code : ℕ) → is_negative (scale_if none code) ≡ false
sign_if true code = refl
sign_if false code = refl

pub scale_class_nan : (code : ℕ) → eqb code 255 ≡ true → NotANumber ≡ class_of (scale_of code)
scale_class_nan code e = class_nan_if (eqb code 255) code e

pub scale_class_number : (code : ℕ) → eqb code 255 ≡ false → Number ≡ class_of (scale_of code)
scale_class_number code e = class_number_if (eqb code 255) code e

pub scale_sign : (code : ℕ) → is_negative (scale_of code) ≡ false
scale_sign code = sign_if (eqb code 255) code
