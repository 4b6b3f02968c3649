-- Conversions by the category of the value.
use Rattle.std.proofs.{Common.◌≡◌, Common.ℕ, Common.Bool, Common.sym, Common.subst, Common.arith, lemmas.Bool.ne_eqb}
use Rattle.apfloat_model.specs.declared.kinds.Category.{Category, TheVariants.Normal, TheVariants.Zero}
use Rattle.apfloat_model.specs.{declared.kinds.Round.Round, formats.Datum.Datum, formats.Datum.finite}
use Rattle.apfloat_model.specs.rounding.Rounding.{zero_sign}
use Rattle.apfloat_model.specs.arithmetic.Conversions.{IsConversion, IsConvertedNumber, IsKept, loses_zero_sign}
use Rattle.apfloat_rounding.specs.{declared.shape.Shape.Shape, declared.unpacked.Unpacked.Unpacked, Shapes.format_at}
use Rattle.apfloat_rounding.specs.Stored.{IsStoredBy, datum_by, quanta_at}
use Rattle.apfloat_rounding.proofs.StoredBack.{quanta_some}

abbrev Says : Shape → Shape → Round → Category → Unpacked → Datum → ℕ → Bool → Type 0
Says from into mode k x value status loses_info =
    IsConversion (format_at from) (format_at into) mode (datum_by k from x) value status loses_info

-- the conversion of a number, by its quanta
number_converted : (from into : Shape) (mode : Round) (x : Unpacked) (value : Datum) (status : ℕ) (loses_info : Bool)
    → IsStoredBy Normal from x → IsConvertedNumber (format_at from) (format_at into) mode x.negative
    (quanta_at from.min_exp x.significand x.exponent) value status loses_info
    → Says from into mode Normal x value status loses_info
number_converted from into mode x value status loses_info t h =
    let p = quanta_some from x.significand x.exponent t in
    rw (ne_eqb (quanta_at from.min_exp x.significand x.exponent) 0 (λ z. omega (arith, z, p))) h

-- the conversion of a number has the result for its quanta
pub of_number : (from into : Shape) (mode : Round) (category : Category) (x : Unpacked) (value : Datum) (status : ℕ)
    (loses_info : Bool) → category ≡ Normal → IsStoredBy category from x
    → IsConvertedNumber (format_at from) (format_at into) mode x.negative
    (quanta_at from.min_exp x.significand x.exponent) value status loses_info
    → Says from into mode category x value status loses_info
of_number from into mode category x value status loses_info e t h =
    subst (λ (o : Category). IsStoredBy o from x → Says from into mode o x value status loses_info) (sym e)
    (λ t. number_converted from into mode x value status loses_info t h) t

-- a zero keeps its sign if the format has both zeros
pub of_zero : (from into : Shape) (mode : Round) (category : Category)
    (x : Unpacked) (value : Datum) (status : ℕ) (loses_info : Bool) → category ≡ Zero
    → IsKept (finite (zero_sign into.nonfinite x.negative) 0) (loses_zero_sign (format_at into) x.negative) value
    status loses_info → Says from into mode category x value status loses_info
of_zero from into mode category x value status loses_info e h =
    subst (λ (o : Category). Says from into mode o x value status loses_info) (sym e) h
