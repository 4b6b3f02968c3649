use Rattle.std.proofs.Common.{sym, refl, ◌≡◌, ◌∙◌, arith, ℤ, pos, false, to_z, of_z, w32}
use Rattle.std.proofs.lemmas.Int.{ints}
use Rattle.std.specs.Int.Signed.{lt_z}
use Rattle.apfloat_model.specs.declared.kinds.Category.{Category}
use Rattle.apfloat_model.specs.declared.kinds.Category.TheVariants.{Infinity, NaN, Normal, Zero}
use Rattle.apfloat_model.specs.order.Classes.{is_denormal}
use Rattle.apfloat_rounding.specs.{declared.shape.Shape.Shape, declared.unpacked.Unpacked.Unpacked, Shapes.format_at}
use Rattle.apfloat_rounding.specs.Stored.{IsStoredBy, quanta_at, datum_by}
use Rattle.apfloat_rounding.proofs.{ShapeExponents.min_exp_word, StoredBack.quanta_some}
use Rattle.apfloat_arithmetic.proofs.ProductExponents.{normal_near}
use Rattle.apfloat_arithmetic.proofs.NumberClasses.{compares_as, below_is, denormal_number}
use Rattle.apfloat_arithmetic.proofs.classes.is_denormal.Goals as goal

-- the exponent 0 is not below the least one
zero_not_below : (s : Shape) (e : ℤ) → e ≡ pos 0 → lt_z (to_z w32 (of_z w32 e)) (to_z w32 (of_z w32 s.min_exp)) ≡ false
zero_not_below s e z =
    rw (z, min_exp_word s)
    (compares_as (lt_z (pos 0) s.min_exp) (pos 0) s.min_exp false refl
    (λ l. absurd (omega (arith, ints, s.parameters, l))) (λ l. refl))

-- by the category of the value
by_category : (k : Category) (s : Shape) (x : Unpacked) → IsStoredBy k s x
    → lt_z (to_z w32 (of_z w32 x.exponent)) (to_z w32 (of_z w32 s.min_exp)) ≡ is_denormal (format_at s) (datum_by k s x)
by_category Normal s x n =
    let near = normal_near s x.significand x.exponent n in
    rw (near.word, min_exp_word s)
    (below_is s x.significand x.exponent n s.parameters.precision_low
    ∙ sym (denormal_number (format_at s) x.negative (quanta_at s.min_exp x.significand x.exponent)
    (quanta_some s x.significand x.exponent n)))
by_category Zero s x z = zero_not_below s x.exponent z.exponent_is
by_category Infinity s x z = zero_not_below s x.exponent z.exponent_is
by_category NaN s x z = zero_not_below s x.exponent z.exponent_is

pub returns : goal.returns
returns c = by_category c.args.x.category c.args.shape c.args.x c.requires
