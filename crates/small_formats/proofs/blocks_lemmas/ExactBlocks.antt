-- Blocks that double, single and bfloat have exactly.
use Rattle.std.proofs.Common.{lit≤, ◌≡◌, ℕ, ◌+◌, ◌-◌, ◌*◌, ◌^◌, ◌<◌, Bool, true, false, eqb, refl, sym, ap, ◌∙◌, subst}
use Rattle.std.proofs.{Common.arith, lemmas.Bool.ne_eqb, lemmas.Bool.MatchBool-at_false, lemmas.Nat.pow-add}
use Rattle.std.specs.Bool.{MatchBool}
use Rattle.apfloat_model.specs.{declared.kinds.Round.Round, formats.Datum.Datum, formats.Datum.finite, formats.Nan.qnan}
use Rattle.apfloat_model.specs.{order.Classes.is_finite, order.Classes.quanta_of}
use Rattle.apfloat_model.specs.formats.{Datum.infinite, Datum.nan, Format.Format, Formats.bfloat_constants}
use Rattle.apfloat_model.specs.formats.{Formats.double_constants, Formats.single_constants, Lawful.format_with}
use Rattle.apfloat_model.specs.rounding.{Answer.IsAnswer, Rounding.IsDelivered, Rounding.ok_bits}
use Rattle.apfloat_arithmetic.specs.other_formats.FormatOf.{IsProductTo}
use Rattle.small_formats.specs.Scales.{nan_code, scale_format, scale_of}
use Rattle.small_formats.specs.declared.blocks.elements.ElementFormat.{ElementFormat}
use Rattle.small_formats.specs.blocks.Elements.{element_datum, format_of_element, width}
use Rattle.small_formats.specs.blocks.Laws.{IsExactIntoBFloat, IsExactIntoDouble, IsExactIntoSingle, IsExactlyScaled}
use Rattle.small_formats.specs.blocks.MxBlocks.{IsScaled}
use Rattle.small_formats.proofs.blocks_lemmas.{Quotients.sign_over_positive, exact.Rooms.room_in, exact.Rooms.short}
use Rattle.small_formats.proofs.blocks_lemmas.ElementNumbers.{element_number}
use Rattle.small_formats.proofs.blocks_lemmas.ExactProducts.{HasProducts, exact_product}

-- the product of a scale and a number
product_is : (element : ElementFormat) (g : Format) (mode : Round) (scale : ℕ) (x value : Datum) (status : ℕ)
    → (scale ≡ 255 → ⊥) → is_finite x ≡ true → MatchBool (eqb scale nan_code) (IsAnswer (qnan g 0) ok_bits value status)
    (IsProductTo (format_of_element element) scale_format g mode x (scale_of scale) value status)
    → (b : Bool) × (x ≡ finite b (quanta_of x)) × IsDelivered g mode b (quanta_of x * 2 ^ scale * 2 ^ g.scale)
    (2 ^ ((format_of_element element).scale + 127)) value status
product_is element g mode scale (finite b n) value status some number h =
    let f = format_of_element element in
    let off : eqb scale nan_code ≡ false = ne_eqb scale 255 some in
    let at : scale_of scale ≡ finite false (2 ^ scale) = rw off refl in
    let p = MatchBool-at_false _ (IsProductTo f scale_format g mode (finite b n) (scale_of scale) value status) off h in
    let p' = subst (λ (y : Datum). IsProductTo f scale_format g mode (finite b n) y value status) at p in (
      b,
      refl,
      subst (λ (s : Bool). IsDelivered g mode s (n * 2 ^ scale * 2 ^ g.scale) (2 ^ (f.scale + 127)) value status)
          (sign_over_positive b) p',
    )
product_is element g mode scale (infinite b) value status some number h = cc
product_is element g mode scale (nan b s) value status some number h = cc

-- a scaled element is exact in a format that has room for all such products
scaled_exactly : (element : ElementFormat) (g : Format) (mode : Round) (scale code : ℕ) (value : Datum) (status : ℕ)
    → scale < nan_code → code < 2 ^ width element → is_finite (element_datum element code) ≡ true
    → HasProducts g (format_of_element element).precision (format_of_element element).span
    ((format_of_element element).scale + 127) scale
    → IsScaled element g mode scale code value status → IsExactlyScaled element g scale code value status
scaled_exactly element g mode scale code value status below narrow number has h =
    let f = format_of_element element in
    let x : Datum = element_datum element code in
    let p = product_is element g mode scale x value status (λ e. omega (arith, e, below)) number h in
    let member = element_number element code narrow number in
    let exact = exact_product g mode p.0 f.precision f.span (f.scale + 127) scale (quanta_of x) value status has
    member.on_grid (omega (arith, (short element).most, member.within)) p.2 in
    let k : ℕ = scale + g.scale - (f.scale + 127) in
    let places : k + (f.scale + 127) ≡ scale + g.scale = omega (arith, has.quantum) in
    record {
      negative = p.0;
      quanta = quanta_of x * 2 ^ k;
      number = quanta_of x;
      element_is = p.1;
      value_is = exact.value_is;
      same =
          let a : 2 ^ (k + (f.scale + 127)) ≡ 2 ^ k * 2 ^ (f.scale + 127) = pow-add 2 k (f.scale + 127) in
          let b : 2 ^ (scale + g.scale) ≡ 2 ^ scale * 2 ^ g.scale = pow-add 2 scale g.scale in
          let c : 2 ^ k * 2 ^ (f.scale + 127) ≡ 2 ^ scale * 2 ^ g.scale = sym a ∙ ap (λ (n : ℕ). 2 ^ n) places ∙ b in
          (let z : quanta_of x * 2 ^ k * 2 ^ (f.scale + 127) ≡ quanta_of x * (2 ^ k * 2 ^ (f.scale + 127)) =
          omega arith in z) ∙ ap (λ (n : ℕ). quanta_of x * n) c ∙ omega arith;
      status_is = exact.status_is;
    }

-- ---- double, single and bfloat

pub exact_into_double : IsExactIntoDouble
exact_into_double element scale below mode code value status narrow number h =
    let s = short element in
    scaled_exactly element (format_with double_constants) mode scale code value status below narrow number
    (room_in element (format_with double_constants) scale refl (lit≤ tt) (omega (arith, s.quantum))
    (omega (arith, s.exponents, below))) h

pub exact_into_single : IsExactIntoSingle
exact_into_single element scale top mode code value status narrow number h =
    let s = short element in
    let some = s.exponents_low in
    scaled_exactly element (format_with single_constants) mode scale code value status (omega (arith, top, some)) narrow
    number
    (room_in element (format_with single_constants) scale refl (lit≤ tt) (omega (arith, s.quantum))
    (omega (arith, top))) h

pub exact_into_bfloat : IsExactIntoBFloat
exact_into_bfloat element scale top quantum mode code value status narrow number h =
    let some = (short element).exponents_low in
    scaled_exactly element (format_with bfloat_constants) mode scale code value status (omega (arith, top, some)) narrow
    number (room_in element (format_with bfloat_constants) scale refl (lit≤ tt) quantum (omega (arith, top))) h
