-- The fraction of a stored number.
use Rattle.std.proofs.Common.{ℕ, ◌-◌, ◌*◌, ◌^◌, ◌<◌, ◌≤◌, arith, ℤ, negsuc, ◌-ℤ◌}
use Rattle.std.proofs.lemmas.Nat.{pow_pos}
use Rattle.apfloat_model.specs.{formats.Format.largest, rounding.Standing.up}
use Rattle.apfloat_rounding.specs.{declared.shape.Shape.Shape, Shapes.format_at, Stored.IsNormalAt}
use Rattle.apfloat_rounding.proofs.ShapeExponents.{scale_is}
use Rattle.apfloat_conversions.proofs.StoredExponents.{scale_in_span, half_within, number_of}
use Rattle.apfloat_conversions.proofs.Nexts.{logarithm_is, fraction_operand, fraction_quanta, fraction_low}

-- the quanta of the fraction
abbrev pub fraction_at : Shape → ℕ → ℕ
fraction_at s m = m * 2 ^ up (negsuc 0 -ℤ s.min_exp)

-- the fraction is in [1/2, 1)
pub fraction_size : (shape : Shape) (m : ℕ) (e : ℤ) → IsNormalAt shape m e
    → (2 ^ ((format_at shape).scale - 1) ≤ fraction_at shape m) × (fraction_at shape m < 2 ^ (format_at shape).scale)
fraction_size shape m e n =
    let o = fraction_operand shape.precision shape.min_exp shape.max_exp e m
    shape.parameters.precision_low shape.parameters.min_exp_high shape.parameters.max_exp_low n.operand in
    fraction_low (format_at shape) (fraction_at shape m)
    (logarithm_is (format_at shape) shape.precision shape.min_exp shape.max_exp (negsuc 0) m (fraction_at shape m)
    shape.parameters.precision_low (scale_is shape) o (fraction_quanta shape.min_exp m shape.parameters.min_exp_high))

-- the fraction is a normal number of the shape
pub fraction_number : (shape : Shape) (m : ℕ) (e : ℤ) → IsNormalAt shape m e → IsNormalAt shape m (negsuc 0)
fraction_number shape m e n =
    let o = fraction_operand shape.precision shape.min_exp shape.max_exp e m
    shape.parameters.precision_low shape.parameters.min_exp_high shape.parameters.max_exp_low n.operand in
    let q = fraction_quanta shape.min_exp m shape.parameters.min_exp_high in
    let b₁ = (fraction_size shape m e n).1 in
    let w : 1 * 2 ^ (format_at shape).scale ≤ largest (format_at shape) =
    half_within shape 1 (format_at shape).scale (pow_pos (shape.precision - 1)) (omega (arith, scale_in_span shape)) in
    number_of shape m (negsuc 0) (fraction_at shape m) o q (omega (arith, w, b₁))
