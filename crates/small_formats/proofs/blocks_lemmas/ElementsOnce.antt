-- An element has one code: no two codes of an element format mean one datum.
use Rattle.std.proofs.Common.{◌≡◌, ℕ, ◌^◌, ◌<◌, Bool, refl, sym, ap, ◌∙◌, subst, lit≤}
use Rattle.apfloat_model.specs.{bits.Interchange.IsInterchange, bits.Layout.IsEncodedBy, declared.kinds.Round.Round}
use Rattle.apfloat_model.specs.formats.{Datum.Datum, Format.Format, Formats.e4m3fn_constants, Formats.e5m2_constants}
use Rattle.apfloat_model.specs.formats.Lawful.{format_with, layout_with}
use Rattle.apfloat_model.specs.{order.Classes.is_negative, rounding.Rounding.delivered_status}
use Rattle.apfloat_model.proofs.{Once.Once, bits.EncodedOnce.encoded_once, rounding.Picks.pick_unique}
use Rattle.small_formats.specs.{Conversions.saturated_value, LawTest.lawful_from_test}
use Rattle.small_formats.specs.declared.blocks.elements.ElementFormat.{ElementFormat}
use Rattle.small_formats.specs.declared.blocks.elements.ElementFormat.TheVariants.{E5M2, E4M3FN, E3M2FN, E2M3FN, E2M1FN}
use Rattle.small_formats.specs.blocks.Elements.{IsElement, IsQuotientBy, e2m1fn, e2m3fn, e3m2fn, element_datum}
use Rattle.small_formats.specs.blocks.Elements.{format_of_element, width}
use Rattle.small_formats.proofs.OneAnswer.{code_once}

pub e4m3fn_interchange : IsInterchange (format_with e4m3fn_constants) (layout_with e4m3fn_constants)
e4m3fn_interchange =
    record { precise = lit≤ tt; some = lit≤ tt; bits = refl; within = lit≤ tt; span = refl; explicit = refl }

pub e5m2_interchange : IsInterchange (format_with e5m2_constants) (layout_with e5m2_constants)
e5m2_interchange =
    record { precise = lit≤ tt; some = lit≤ tt; bits = refl; within = lit≤ tt; span = refl; explicit = tt }

e4m3fn_encoded : (code : ℕ) → code < 2 ^ width E4M3FN
    → IsEncodedBy (format_with e4m3fn_constants) (layout_with e4m3fn_constants) code (element_datum E4M3FN code)
e4m3fn_encoded code l = record { below = l; canonical = refl; is = refl }

e5m2_encoded : (code : ℕ) → code < 2 ^ width E5M2
    → IsEncodedBy (format_with e5m2_constants) (layout_with e5m2_constants) code (element_datum E5M2 code)
e5m2_encoded code l = record { below = l; canonical = refl; is = refl }

pub code_of_element_once : (element : ElementFormat) (code other : ℕ) → code < 2 ^ width element
    → other < 2 ^ width element → element_datum element code ≡ element_datum element other → code ≡ other
code_of_element_once E5M2 code other l k e =
    encoded_once (format_with e5m2_constants) (layout_with e5m2_constants) (element_datum E5M2 other) code other
    e5m2_interchange
    (subst (λ (x : Datum). IsEncodedBy (format_with e5m2_constants) (layout_with e5m2_constants) code x) e
    (e5m2_encoded code l)) (e5m2_encoded other k)
code_of_element_once E4M3FN code other l k e =
    encoded_once (format_with e4m3fn_constants) (layout_with e4m3fn_constants) (element_datum E4M3FN other) code other
    e4m3fn_interchange
    (subst (λ (x : Datum). IsEncodedBy (format_with e4m3fn_constants) (layout_with e4m3fn_constants) code x) e
    (e4m3fn_encoded code l)) (e4m3fn_encoded other k)
code_of_element_once E3M2FN code other l k e =
    code_once e3m2fn code other (element_datum E3M2FN other) (lawful_from_test e3m2fn refl) l k e refl
code_of_element_once E2M3FN code other l k e =
    code_once e2m3fn code other (element_datum E2M3FN other) (lawful_from_test e2m3fn refl) l k e refl
code_of_element_once E2M1FN code other l k e =
    code_once e2m1fn code other (element_datum E2M1FN other) (lawful_from_test e2m1fn refl) l k e refl

pub element_once : (element : ElementFormat) (mode : Round) (negative : Bool) (amount parts code other status flags : ℕ)
    → code < 2 ^ width element → other < 2 ^ width element → IsElement element mode negative amount parts code status
    → IsElement element mode negative amount parts other flags → (code ≡ other) × (status ≡ flags)
element_once element mode b amount parts code other status flags l k x y =
    let g = format_of_element element in
    let same : x.pick ≡ y.pick = pick_unique g.precision mode b amount parts x.pick y.pick x.is_pick y.is_pick in (
      code_of_element_once element code other l k
          (x.value_is ∙ ap (λ (p : ℕ). saturated_value g b p) same ∙ sym y.value_is),
      x.status_is ∙ ap (λ (p : ℕ). delivered_status g mode b amount parts p) same ∙ sym y.status_is,
    )

pub quotient_by_once : (element : ElementFormat) (f : Format) (mode : Round) (divisor unit : ℕ) (x : Datum)
    → Once (IsQuotientBy element f mode divisor unit x)
quotient_by_once element f mode divisor unit x code other status flags h k =
    element_once element mode (is_negative x) _ _ code other status flags h.0 k.0 h.1 k.1
