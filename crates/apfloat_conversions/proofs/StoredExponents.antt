-- A stored number and its exponent, in the format of its shape.
use Rattle.std.proofs.Common.{◌≡◌, ℕ, ◌+◌, ◌-◌, ◌*◌, ◌^◌, ◌<◌, ◌≤◌, Bool, sym, ap}
use Rattle.std.proofs.Common.{◌∙◌, subst, arith, ℤ, pos, ◌+ℤ◌, ◌-ℤ◌, ◌≤ℤ◌, to_z, of_z, w32}
use Rattle.std.proofs.lemmas.{Int.ints, Nat.pow-add, Nat.pow_pos}
use Rattle.std.proofs.Math.Nat.{mul-le-mul_right, mul-le-mul_left, mul-lt-mul_of_pos_right, pow-le-pow_right}
use Rattle.apfloat_model.specs.declared.{kinds.Round.Round, loss.Loss.TheVariants.ExactlyZero}
use Rattle.apfloat_model.specs.formats.{Format.Format, Format.largest, Format.greatest_significand, Datum.Datum}
use Rattle.apfloat_model.specs.{formats.Datum.finite, rounding.Bounds.scaling_bound, rounding.Bounds.span_bound}
use Rattle.apfloat_model.specs.rounding.{Rounding.ok_bits, Rounding.IsDelivered, Rounding.zero_sign, Standing.StandsFor}
use Rattle.apfloat_model.specs.{rounding.Standing.up, rounding.Standing.down, arithmetic.Scaling.IsScaling}
use Rattle.apfloat_model.proofs.{general.Powers.two_pos, formats.Greatest.greatest_full, arithmetic.Tables.scaling_zero}
use Rattle.apfloat_model.proofs.arithmetic.SingleScalings.{IsClamped, up_le, quanta_below, scaled_is, scaled_stands}
use Rattle.apfloat_model.proofs.{arithmetic.SingleScalings.clamp_kept, texts.ZeroTexts.zero_text}
use Rattle.apfloat_rounding.specs.{declared.shape.Shape.Shape, Shapes.format_at}
use Rattle.apfloat_rounding.specs.Stored.{IsOperandAt, IsQuantaAt, IsNormalAt, quanta_at}
use Rattle.apfloat_rounding.proofs.{StoredBack.quanta_some, ShapeExponents.exponent_word, ShapeExponents.scale_is}
use Rattle.apfloat_rounding.proofs.{ShapeExponents.span_is, StoredNumbers.quanta_is, StoredNumbers.whole_is}
use Rattle.apfloat_conversions.specs.Scalings.{IsScaled}
use Rattle.apfloat_conversions.proofs.Wholes.{up_of, places_up, places_down}

-- ---- the number as a fraction, by the exponent of its last digit

-- an integer as a fraction, by its significand and the exponent of its last digit
pub whole_places : (shape : Shape) (m : ℕ) (e r : ℤ) → IsNormalAt shape m e
    → r ≡ (to_z w32 (of_z w32 e) -ℤ pos (shape.precision - 1)) → pos 0 ≤ℤ r
    → quanta_at shape.min_exp m e ≡ m * 2 ^ up r * 2 ^ (format_at shape).scale
whole_places shape m e r n v l =
    let v' = rw (exponent_word shape m e n) at v in
    places_up (shape.precision - 1) (format_at shape).scale shape.min_exp e r m (quanta_at shape.min_exp m e) (up r)
    (scale_is shape) v' (omega (arith, ints, up_of r l)) n.whole

-- a number that may have a fraction, by its significand and the exponent of its last digit
pub fraction_places : (shape : Shape) (m k : ℕ) (e r : ℤ) → IsNormalAt shape m e
    → r ≡ (to_z w32 (of_z w32 e) -ℤ pos (shape.precision - 1)) → pos k ≡ (pos 0 -ℤ r)
    → quanta_at shape.min_exp m e * 2 ^ k ≡ m * 2 ^ (format_at shape).scale
fraction_places shape m k e r n v h =
    let v' = rw (exponent_word shape m e n) at v in
    places_down (shape.precision - 1) (format_at shape).scale shape.min_exp e r m (quanta_at shape.min_exp m e) k
    (scale_is shape) v' h n.whole

-- a number below 2 ^ 61, by its significand shifted up to 62 digits
pub word_places : (shape : Shape) (m k : ℕ) (e : ℤ) → IsNormalAt shape m e → shape.precision ≤ 62
    → pos k ≡ (pos 61 -ℤ e)
    → quanta_at shape.min_exp m e * 2 ^ k ≡ m * 2 ^ (62 - shape.precision) * 2 ^ (format_at shape).scale
word_places shape m k e n l h =
    let p = shape.parameters.precision_low in
    let g = scaled_stands m (quanta_at shape.min_exp m e) (down (e -ℤ shape.min_exp)) (up (e -ℤ shape.min_exp)) 0
    (format_at shape).scale (62 - shape.precision) k n.whole (omega (arith, ints, scale_is shape, h, l, p)) in
    omega (arith, g)

-- a significand shifted up to 62 digits fits in the word
pub top_fits : (precision m : ℕ) → precision ≤ 62 → m < 2 ^ precision → m * 2 ^ (62 - precision) < 2 ^ 62
top_fits precision m l f =
    let e : precision + (62 - precision) ≡ 62 = omega (arith, l) in
    let a : m * 2 ^ (62 - precision) < 2 ^ precision * 2 ^ (62 - precision) =
    mul-lt-mul_of_pos_right f (pow_pos (62 - precision)) in
    omega (arith, a, ap (λ (x : ℕ). 2 ^ x) (sym e) ∙ pow-add 2 precision (62 - precision))

-- ---- times a power of two

abbrev pub DeliversOf : Shape → Round → Bool → ℕ → ℤ → Datum → ℕ → Type 0
DeliversOf s mode negative m r v st =
    (amount parts : ℕ) → 0 < parts → StandsFor m ExactlyZero (amount * 2 ^ down (r +ℤ pos (format_at s).scale))
    (parts * 2 ^ up (r +ℤ pos (format_at s).scale)) → IsDelivered (format_at s) mode negative amount parts v st

-- a number times a power of two is delivered with the clamped exponent
pub scale_delivered : (shape : Shape) (m : ℕ) (e j near r : ℤ) (mode : Round) (negative : Bool) (value : Datum) (st : ℕ)
    → IsNormalAt shape m e → IsClamped scaling_bound j near
    → r ≡ ((e +ℤ near) -ℤ pos (shape.precision - 1)) → DeliversOf shape mode negative m r value st
    → IsDelivered (format_at shape) mode negative (quanta_at shape.min_exp m e * 2 ^ up j) (2 ^ down j) value st
scale_delivered shape m e j near r mode negative v st n c i d =
    let a = quanta_at shape.min_exp m e in
    let k = scale_is shape in
    let o = n.operand in
    let g : (e -ℤ shape.min_exp) ≤ℤ pos span_bound = omega (arith, ints, shape.parameters, o) in
    let f : (format_at shape).span ≤ span_bound = omega (arith, ints, shape.parameters, span_is shape) in
    clamp_kept (format_at shape) mode negative (quanta_at shape.min_exp m e) (shape.precision + up (e -ℤ shape.min_exp))
    scaling_bound j near v st (omega (arith, shape.parameters)) (quanta_some shape m e n)
    (quanta_below shape.precision shape.min_exp e m (quanta_at shape.min_exp m e) o.fits n.whole)
    (omega (arith, f, shape.parameters)) (omega (arith, up_le (e -ℤ shape.min_exp) span_bound g, shape.parameters)) c
    (d (quanta_at shape.min_exp m e * 2 ^ up near) (2 ^ down near) (pow_pos (down near))
    (scaled_is (shape.precision - 1) (format_at shape).scale shape.min_exp e near r m (quanta_at shape.min_exp m e) k i
    n.whole))

-- ---- sizes within the format

-- half of 2 to the precision, at any place up to the span, is within the largest value
pub half_within : (shape : Shape) (m k : ℕ) → m ≤ 2 ^ (shape.precision - 1) → k ≤ (format_at shape).span
    → m * 2 ^ k ≤ largest (format_at shape)
half_within shape m k h l =
    let g : m ≤ greatest_significand shape.nonfinite shape.precision =
    let f = greatest_full shape.nonfinite shape.precision shape.parameters.precision_low in omega (arith, h, f) in
    let c : greatest_significand shape.nonfinite shape.precision * 2 ^ k
    ≤ greatest_significand shape.nonfinite shape.precision * 2 ^ (format_at shape).span =
    mul-le-mul_left (greatest_significand shape.nonfinite shape.precision) (pow-le-pow_right two_pos l) in
    omega (arith, mul-le-mul_right (2 ^ k) g, c)

-- the scale of a shape is less than its span
pub scale_in_span : (shape : Shape) → (format_at shape).scale + 1 ≤ (format_at shape).span
scale_in_span shape = omega (arith, ints, scale_is shape, span_is shape, shape.parameters)

-- a stored number represents its quanta
pub number_of : (shape : Shape) (m : ℕ) (e : ℤ) (n : ℕ) → IsOperandAt shape.precision shape.min_exp shape.max_exp m e
    → IsQuantaAt shape.min_exp m e n → n ≤ largest (format_at shape) → IsNormalAt shape m e
number_of shape m e n o q l =
    record { operand = o; whole = whole_is shape.min_exp m e n q; within = rw (quanta_is shape.min_exp m e n q) l }

-- ---- a zero times a power of two

-- a zero times a power of two is that zero
pub zero_scaled : (format : Format) (mode : Round) (negative : Bool) (j : ℤ)
    → negative ≡ zero_sign format.nonfinite negative → IsScaling format mode (finite negative 0) j (finite negative 0)
zero_scaled format mode negative j z =
    subst (λ (b : Bool). IsScaling format mode (finite negative 0) j (finite b 0)) (sym z)
    (scaling_zero format mode negative j)

-- the same with its status
pub zero_scaled_ok : (format : Format) (mode : Round) (negative : Bool) (j : ℤ)
    → negative ≡ zero_sign format.nonfinite negative
    → IsScaled format mode (finite negative 0) j (finite negative 0) ok_bits
zero_scaled_ok format mode negative j z =
    subst (λ (b : Bool). IsScaled format mode (finite negative 0) j (finite b 0) ok_bits) (sym z)
    (zero_text format mode negative j)
