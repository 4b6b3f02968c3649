use Rattle.std.proofs.Common.{◌≡◌, ℕ, ◌*◌, ◌^◌, ◌∙◌, ℤ, ap, sym, subst, arith}
use Rattle.std.proofs.lemmas.Int.{ints}
use Rattle.std.specs.Prelude.{◌-ℤ◌}
use Rattle.apfloat_model.specs.declared.kinds.Category.{Category, TheVariants.Normal}
use Rattle.apfloat_model.specs.{formats.Datum.Datum, order.Classes.category_of, order.Classes.quanta_of}
use Rattle.apfloat_model.specs.rounding.Standing.{up, down}
use Rattle.apfloat_rounding.proofs.ShapeExponents.{scale_is}
use Rattle.apfloat_rounding.specs.Stored.{IsNormal, IsStored, IsStoredBy, datum_at, datum_by, quanta_at}
use Rattle.apfloat_rounding.specs.declared.{shape.Shape.Shape, unpacked.Unpacked.Unpacked}
use Rattle.apfloat_ieee.specs.FlaggedTypes.{shape_of}
use Rattle.apfloat_ieee.proofs.ieee_float.IeeeFloat.number.Goals as goal

-- a stored number obeys the law of numbers
normal_of : (s : Shape) (stored : Unpacked) (x : Datum) → IsStored s stored → stored.category ≡ category_of x
    → category_of x ≡ Normal → IsNormal s stored
normal_of s stored x is same number = subst (λ (k : Category). IsStoredBy k s stored) (same ∙ number) is

-- its quanta are those of its datum
quanta_is : (s : Shape) (stored : Unpacked) (x : Datum) → x ≡ datum_at s stored → stored.category ≡ category_of x
    → category_of x ≡ Normal → quanta_of x ≡ quanta_at s.min_exp stored.significand stored.exponent
quanta_is s stored x is same number =
    ap (λ (d : Datum). quanta_of d) (is ∙ ap (λ (k : Category). datum_by k s stored) (same ∙ number))

-- in quanta, the exponent of the last digit is that of the integer bit above the least one
number_is : (s : Shape) (stored : Unpacked) (x : Datum) (unit : ℤ) → IsStored s stored → x ≡ datum_at s stored
    → stored.category ≡ category_of x → category_of x ≡ Normal → unit ≡ stored.exponent -ℤ s.min_exp
    → quanta_of x * 2 ^ down unit ≡ stored.significand * 2 ^ up unit
number_is s stored x unit is datum same number at =
    let normal = normal_of s stored x is same number in
    subst (λ (z : ℤ). quanta_of x * 2 ^ down z ≡ stored.significand * 2 ^ up z) (sym at)
    (ap (λ (n : ℕ). n * 2 ^ down (stored.exponent -ℤ s.min_exp)) (quanta_is s stored x datum same number)
    ∙ normal.whole)

pub returns-clause-fits : goal.returns-clause-fits
returns-clause-fits g c =
    (normal_of (shape_of g.S.Flagged) c.unpacked-stored.result c.args.self c.unpacked-stored.ensures.stored
    c.unpacked-stored.ensures.category c.requires).operand.fits

pub returns-clause-full : goal.returns-clause-full
returns-clause-full g c =
    (normal_of (shape_of g.S.Flagged) c.unpacked-stored.result c.args.self c.unpacked-stored.ensures.stored
    c.unpacked-stored.ensures.category c.requires).operand.full

pub overflow_sub-result-2 : goal.overflow_sub-result-2
overflow_sub-result-2 g c =
    let x = (normal_of (shape_of g.S.Flagged) c.unpacked-stored.result c.args.self c.unpacked-stored.ensures.stored
    c.unpacked-stored.ensures.category c.requires).operand in
    let p = g.S.Flagged.lawful.parameters in
    omega (arith, ints, x.least, x.greatest, p.precision_low, p.precision_high, p.min_exp_low, p.max_exp_high)

pub returns-clause-within : goal.returns-clause-within
returns-clause-within g c =
    let x = (normal_of (shape_of g.S.Flagged) c.unpacked-stored.result c.args.self c.unpacked-stored.ensures.stored
    c.unpacked-stored.ensures.category c.requires).operand in
    let p = g.S.Flagged.lawful.parameters in
    record {
      low = omega (arith, ints, x.least, x.greatest, p.precision_low, p.precision_high, p.min_exp_low, p.max_exp_high);
      high = omega (arith, ints, x.least, x.greatest, p.precision_low, p.precision_high, p.min_exp_low, p.max_exp_high);
    }

pub returns-clause-number : goal.returns-clause-number
returns-clause-number g c =
    let x = (normal_of (shape_of g.S.Flagged) c.unpacked-stored.result c.args.self c.unpacked-stored.ensures.stored
    c.unpacked-stored.ensures.category c.requires).operand in
    let p = g.S.Flagged.lawful.parameters in
    number_is (shape_of g.S.Flagged) c.unpacked-stored.result c.args.self _ c.unpacked-stored.ensures.stored
    c.unpacked-stored.ensures.datum c.unpacked-stored.ensures.category c.requires
    (omega (
      arith,
      ints,
      x.least,
      x.greatest,
      p.precision_low,
      p.precision_high,
      p.min_exp_low,
      p.max_exp_high,
      scale_is (shape_of g.S.Flagged),
    ))
