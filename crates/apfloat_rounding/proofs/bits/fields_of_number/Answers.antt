use Rattle.std.proofs.Common.{Bool, true, false, ℕ, subst, ◌≡◌, ◌+◌, ◌-◌, ◌*◌, ◌^◌, ◌≤◌, refl, arith, ℤ, pos, ◌-ℤ◌}
use Rattle.std.proofs.{Common.cond, lemmas.Int.ints}
use Rattle.apfloat_model.specs.formats.{Format.smallest_normalized, Format.largest, Datum.finite}
use Rattle.apfloat_model.specs.bits.Interchange.{IsInterchange, AreFieldsOf}
use Rattle.apfloat_model.proofs.bits.{EncodedOnce.fields_with, FieldsOf.low_fields_of, FieldsOf.high_fields_of}
use Rattle.apfloat_rounding.specs.{Shapes.format_at, Stored.quanta_at, Stored.IsNormalAt, declared.shape.Shape.Shape}
use Rattle.apfloat_rounding.specs.{declared.bits.Widths.Widths, Encoded.layout_at}
use Rattle.apfloat_rounding.proofs.StoredBack.{quanta_some}
use Rattle.apfloat_rounding.proofs.StoredNumbers.{quanta_low, quanta_low_below, quanta_high}
use Rattle.apfloat_rounding.proofs.bits.fields_of_number.Goals as goal

pub steps_between-requires-clause-above : goal.steps_between-requires-clause-above
steps_between-requires-clause-above c = omega (arith, ints)

pub steps_between-requires-clause-high : goal.steps_between-requires-clause-high
steps_between-requires-clause-high c =
    record {
      low = omega (arith, ints, c.args.shape.parameters.min_exp_low);
      high = omega (arith, ints, c.args.shape.parameters.min_exp_high);
    }

pub steps_between-requires-clause-low : goal.steps_between-requires-clause-low
steps_between-requires-clause-low c =
    record {
      low = omega (arith, ints, c.args.shape.parameters, c.requires.normal.operand);
      high = omega (arith, ints, c.args.shape.parameters, c.requires.normal.operand);
    }

pub overflow_cast-result : goal.overflow_cast-result
overflow_cast-result c = omega (arith, ints, c.args.shape.parameters.precision_high, c.requires.normal.operand.least)

pub overflow_shr-result : goal.overflow_shr-result
overflow_shr-result c = omega (arith, ints, c.args.shape.parameters.precision_high, c.requires.normal.operand.least)

pub returns-then-x-shape : goal.returns-then-x-shape
returns-then-x-shape c =
    let s = c.args.shape in
    let m = c.args.x.significand in
    let e = c.args.x.exponent in
    let o = c.requires.normal.operand in
    let d : pos c.steps_between.result ≡ c.args.shape.min_exp -ℤ c.args.x.exponent = omega (arith, ints, o) in
    let l : 1 ≤ c.steps_between.result = omega (arith, ints, o) in
    let k = quanta_some s m e c.requires.normal in
    rw (← quanta_low s m e c.steps_between.result d)
    (low_fields_of (format_at s) (layout_at c.args.widths) c.args.x.negative (quanta_at s.min_exp m e)
    c.requires.interchange (quanta_low_below s m e c.steps_between.result c.requires.normal
    c.args.shape.parameters.precision_low d l) (λ z. absurd (omega (arith, z, k))))

pub steps_between-requires-2-clause-above : goal.steps_between-requires-2-clause-above
steps_between-requires-2-clause-above c = omega (arith, ints)

pub steps_between-requires-2-clause-high : goal.steps_between-requires-2-clause-high
steps_between-requires-2-clause-high c =
    record {
      low = omega (arith, ints, c.args.shape.parameters, c.requires.normal.operand);
      high = omega (arith, ints, c.args.shape.parameters, c.requires.normal.operand);
    }

pub steps_between-requires-2-clause-low : goal.steps_between-requires-2-clause-low
steps_between-requires-2-clause-low c =
    record {
      low = omega (arith, ints, c.args.shape.parameters.min_exp_low);
      high = omega (arith, ints, c.args.shape.parameters.min_exp_high);
    }

pub overflow_add-result : goal.overflow_add-result
overflow_add-result c =
    let o = c.requires.normal.operand in
    record { fits = omega (arith, ints, c.args.shape.parameters, o, c.steps_between-2.ensures) }

pub overflow_sub-result : goal.overflow_sub-result
overflow_sub-result c = omega (arith, c.requires.normal.operand.full)

-- the fields of a number with its integer bit, from the digits of the significand that are encoded
high : (shape : Shape) (widths : Widths) (negative : Bool) (m j t : ℕ) (e : ℤ)
    → IsInterchange (format_at shape) (layout_at widths) → IsNormalAt shape m e → pos j ≡ e -ℤ shape.min_exp
    → m - cond shape.explicit_integer_bit 0 (smallest_normalized (format_at shape)) ≡ t
    → AreFieldsOf (format_at shape) (layout_at widths) (fields_with negative (j + 1) t)
    (finite negative (quanta_at shape.min_exp m e))
high s widths b m j t e interchange n d w =
    let q = quanta_high s m e j d in
    let top : m * 2 ^ j ≤ largest (format_at s) = rw q at n.within in
    let h = high_fields_of (format_at s) (layout_at widths) interchange b j m n.operand.full n.operand.fits top in
    rw q (subst (λ (x : ℕ). AreFieldsOf (format_at s) (layout_at widths) (fields_with b (j + 1) x)
    (finite b (m * 2 ^ j))) w h)

hidden_none : (explicit : Bool) (m half : ℕ) → explicit ≡ true → m - cond explicit 0 half ≡ m
hidden_none explicit m half e = rw e (omega arith)

hidden_bit : (explicit : Bool) (m half : ℕ) → explicit ≡ false → m - cond explicit 0 half ≡ m - half
hidden_bit explicit m half e = rw e refl

pub returns-then-shape : goal.returns-then-shape
returns-then-shape c =
    let d : pos c.steps_between-2.result ≡ c.args.x.exponent -ℤ c.args.shape.min_exp =
    omega (arith, ints, c.requires.normal.operand) in
    high c.args.shape c.args.widths c.args.x.negative c.args.x.significand
    c.steps_between-2.result _ c.args.x.exponent c.requires.interchange c.requires.normal d
    (hidden_none _ _ _ c.if-shape.true)

pub returns-else-shape : goal.returns-else-shape
returns-else-shape c =
    let d : pos c.steps_between-2.result ≡ c.args.x.exponent -ℤ c.args.shape.min_exp =
    omega (arith, ints, c.requires.normal.operand) in
    rw c.integer_bit.ensures
    (high c.args.shape c.args.widths c.args.x.negative c.args.x.significand c.steps_between-2.result _
    c.args.x.exponent c.requires.interchange c.requires.normal d
    (hidden_bit _ _ _ c.if-shape.false))
