-- Conversions that saturate, by the class of what is converted.
use Rattle.std.proofs.Common.{◌≡◌, ◌∙◌, ℕ, Bool, true, false, eqb, cond, refl, ap}
use Rattle.apfloat_model.specs.declared.kinds.Category.{Category}
use Rattle.apfloat_model.specs.declared.kinds.Category.TheVariants.{NaN, Infinity as InfiniteCategory, Zero, Normal}
use Rattle.apfloat_model.specs.{declared.kinds.Round.Round, order.Classes.category_of, order.Classes.is_negative}
use Rattle.apfloat_model.specs.{arithmetic.Conversions.IsConversion, formats.Datum.Datum}
use Rattle.apfloat_model.specs.formats.{Datum.finite, Datum.infinite, Datum.nan, Format.Format, Format.largest}
use Rattle.small_formats.specs.declared.saturation.saturation.FiniteNan.{FiniteNan, TheVariants.Kept}
use Rattle.small_formats.specs.declared.saturation.saturation.{FiniteNan.TheVariants.Largest, ValueClass.ValueClass}
use Rattle.small_formats.specs.declared.saturation.saturation.ValueClass.TheVariants.{Number, Infinity, NotANumber}
use Rattle.small_formats.specs.saturation.Saturation.{IsFiniteConversion, class_of, saturated}

pub nan_kept : (f g : Format) (mode : Round) (x value : Datum) (status : ℕ) (loses : Bool) → class_of x ≡ NotANumber
    → IsConversion f g mode x value status loses → IsFiniteConversion Kept f g mode x value status loses
nan_kept f g mode (nan b s) value status loses e h = h
nan_kept f g mode (infinite b) value status loses e h = cc
nan_kept f g mode (finite b n) value status loses e h = cc

pub nan_largest : (f g : Format) (mode : Round) (x value : Datum) (status : ℕ) (loses : Bool)
    → class_of x ≡ NotANumber → value ≡ finite false (largest g) → status ≡ 1 → loses ≡ true
    → IsFiniteConversion Largest f g mode x value status loses
nan_largest f g mode (nan b s) value status loses e v w l = record { value_is = v; status_is = w; loses_is = l }
nan_largest f g mode (infinite b) value status loses e v w l = cc
nan_largest f g mode (finite b n) value status loses e v w l = cc

pub infinity_largest : (nans : FiniteNan) (f g : Format) (mode : Round) (x value : Datum) (status : ℕ) (loses : Bool)
    → class_of x ≡ Infinity → value ≡ finite (is_negative x) (largest g) → status ≡ 16 → loses ≡ true
    → IsFiniteConversion nans f g mode x value status loses
infinity_largest nans f g mode (infinite b) value status loses e v w l =
    record { value_is = v; status_is = w; loses_is = l }
infinity_largest nans f g mode (nan b s) value status loses e v w l = cc
infinity_largest nans f g mode (finite b n) value status loses e v w l = cc

pub number_saturated : (nans : FiniteNan) (f g : Format) (mode : Round) (x rounded value : Datum) (status : ℕ)
    (loses : Bool) → class_of x ≡ Number → IsConversion f g mode x rounded status loses
    → value ≡ saturated g x rounded → IsFiniteConversion nans f g mode x value status loses
number_saturated nans f g mode (finite b n) rounded value status loses e h v =
    record { rounded = rounded; is_conversion = h; value_is = v }
number_saturated nans f g mode (infinite b) rounded value status loses e h v = cc
number_saturated nans f g mode (nan b s) rounded value status loses e h v = cc

-- ---- classes

abbrev pub class_in : Category → ValueClass
class_in NaN = NotANumber
class_in InfiniteCategory = Infinity
class_in Zero = Number
class_in Normal = Number

number_class : (none : Bool) → Number ≡ class_in (cond none Zero Normal)
number_class true = refl
number_class false = refl

pub class_of_category : (x : Datum) (category : Category) → category_of x ≡ category → class_of x ≡ class_in category
class_of_category (nan b s) category e = ap class_in e
class_of_category (infinite b) category e = ap class_in e
class_of_category (finite b n) category e = number_class (eqb n 0) ∙ ap class_in e

-- ---- the saturated value
