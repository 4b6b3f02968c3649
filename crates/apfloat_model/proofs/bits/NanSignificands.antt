-- The significand of a NaN is the trailing field of its encoding.
use Rattle.std.specs.Prelude.{◌≡◌, ℕ, ◌-◌, ◌%◌, ◌^◌, Bool, true, false, ◌&&◌, leb, eqb}
use Rattle.std.proofs.Common.{refl, sym, ap, ◌∙◌, subst}
use Rattle.std.proofs.lemmas.Bool.{eqb-true}
use Rattle.apfloat_model.specs.declared.kinds.NonfiniteBehavior.{NonfiniteBehavior}
use Rattle.apfloat_model.specs.declared.kinds.NonfiniteBehavior.TheVariants.{IEEE754, NanOnly, NanNegativeZero}
use Rattle.apfloat_model.specs.formats.Format.{Format, smallest_normalized, nan_base_of}
use Rattle.apfloat_model.specs.{formats.Datum.Datum, formats.Nan.nan_significand, order.Classes.is_nan}
use Rattle.apfloat_model.specs.bits.Layout.{Layout, Fields, all_ones, trailing_bits, fields_of, has_all_ones}
use Rattle.apfloat_model.specs.bits.Layout.{implied_number, implied_datum, written_datum, datum_of_fields, datum_of}
use Rattle.apfloat_model.proofs.general.Choices.{if_case}

-- if the datum is a NaN, this is its significand
abbrev IsOfNan : ℕ → Datum → Type 0
IsOfNan trailing x = is_nan x ≡ true → trailing ≡ nan_significand x

second_holds : (s t : Bool) → (s && t) ≡ true → t ≡ true
second_holds true t h = h
second_holds false t h = cc

implied_number_not : (f : Format) (x : Fields) → IsOfNan x.trailing (implied_number f x)
implied_number_not f x = if_case (IsOfNan x.trailing) (eqb x.biased_exponent 0) (λ e h. cc) (λ e h. cc)

implied : (kind : NonfiniteBehavior) (f : Format) (layout : Layout) (x : Fields) → f.nonfinite ≡ kind
    → IsOfNan x.trailing (implied_datum kind f layout x)
implied IEEE754 f layout x k =
    if_case (IsOfNan x.trailing) (has_all_ones layout x)
    (λ e. if_case (IsOfNan x.trailing) (eqb x.trailing 0) (λ d h. cc) (λ d h. refl)) (λ e. implied_number_not f x)
implied NanOnly f layout x k =
    if_case (IsOfNan x.trailing) (has_all_ones layout x && eqb x.trailing (all_ones (f.precision - 1)))
    (λ e h. eqb-true x.trailing (all_ones (f.precision - 1))
    (second_holds (has_all_ones layout x) (eqb x.trailing (all_ones (f.precision - 1))) e)
    ∙ sym (ap (λ kind. nan_base_of kind f.precision) k)) (λ e. implied_number_not f x)
implied NanNegativeZero f layout x k =
    if_case (IsOfNan x.trailing) (x.negative && eqb x.biased_exponent 0 && eqb x.trailing 0)
    (λ e h. eqb-true x.trailing 0 (second_holds (x.negative && eqb x.biased_exponent 0) (eqb x.trailing 0) e)
    ∙ sym (ap (λ kind. nan_base_of kind f.precision) k)) (λ e. implied_number_not f x)

written : (f : Format) (layout : Layout) (x : Fields) → IsOfNan x.trailing (written_datum f layout x)
written f layout x =
    if_case (IsOfNan x.trailing) (has_all_ones layout x)
    (λ e. if_case (IsOfNan x.trailing) (eqb x.trailing (smallest_normalized f)) (λ d h. cc) (λ d h. refl))
    (λ e. if_case (IsOfNan x.trailing) (eqb x.biased_exponent 0) (λ d h. cc)
    (λ d. if_case (IsOfNan x.trailing) (leb (smallest_normalized f) x.trailing) (λ c h. cc) (λ c h. refl)))

of_fields : (f : Format) (layout : Layout) (x : Fields) → IsOfNan x.trailing (datum_of_fields f layout x)
of_fields f layout x =
    if_case (IsOfNan x.trailing) f.explicit_integer_bit (λ e. written f layout x)
    (λ e. implied f.nonfinite f layout x refl)

pub nan_trailing : (f : Format) (layout : Layout) (bits : ℕ) (x : Datum) → datum_of f layout bits ≡ x
    → is_nan x ≡ true → bits % 2 ^ trailing_bits f ≡ nan_significand x
nan_trailing f layout bits x e =
    subst (IsOfNan (bits % 2 ^ trailing_bits f)) e (of_fields f layout (fields_of f layout bits))
