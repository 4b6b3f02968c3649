-- The exponents of a shape, which fit in the machine word.
use Rattle.std.proofs.Common.{◌≡◌, ℕ, ◌-◌, ℤ, pos, ◌-ℤ◌, to_z, of_z, w32, arith}
use Rattle.std.proofs.lemmas.Int.{ints, to_z-of_z}
use Rattle.apfloat_rounding.specs.{declared.shape.Shape.Shape, Shapes.format_at, Stored.IsNormalAt}
use borrow.Author.Differences.{fits_in}

-- the scale is the precision minus 1, minus the least exponent
pub scale_is : (shape : Shape) → pos (format_at shape).scale ≡ pos (shape.precision - 1) -ℤ shape.min_exp
scale_is shape = omega (arith, ints, shape.parameters.precision_low, shape.parameters.min_exp_high)

-- the span is the greatest exponent minus the least one
pub span_is : (shape : Shape) → pos (format_at shape).span ≡ shape.max_exp -ℤ shape.min_exp
span_is shape = omega (arith, ints, shape.parameters)

-- the least exponent fits in its type
pub min_exp_word : (shape : Shape) → to_z w32 (of_z w32 shape.min_exp) ≡ shape.min_exp
min_exp_word shape = to_z-of_z w32 shape.min_exp (fits_in w32 shape.min_exp (omega (arith, ints, shape.parameters)))

-- the greatest exponent fits in its type
pub max_exp_word : (shape : Shape) → to_z w32 (of_z w32 shape.max_exp) ≡ shape.max_exp
max_exp_word shape = to_z-of_z w32 shape.max_exp (fits_in w32 shape.max_exp (omega (arith, ints, shape.parameters)))

-- the exponent of a stored number fits in its type
pub exponent_word : (shape : Shape) (m : ℕ) (e : ℤ) → IsNormalAt shape m e → to_z w32 (of_z w32 e) ≡ e
exponent_word shape m e n = to_z-of_z w32 e (fits_in w32 e (omega (arith, ints, shape.parameters, n.operand)))
