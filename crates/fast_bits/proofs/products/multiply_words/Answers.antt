use Rattle.std.proofs.Common.{◌*◌, ◌^◌, refl, sym}
use Rattle.std.proofs.Math.Path.{subst₂}
use Rattle.std.specs.Prelude.{IfSome}
use Rattle.apfloat_model.specs.arithmetic.{Exact.product_sign, Products.IsProduct}
use Rattle.apfloat_ieee.specs.FlaggedTypes.{constants_of, format_of}
use Rattle.fast_bits.specs.{Encoded.IsNumberAnswer, Numbers.quanta_of}
use Rattle.fast_bits.proofs.Operands.{answered_if_some}
use Rattle.fast_bits.proofs.products.multiply_words.Goals as goal

pub returns-in-Some : goal.returns-in-Some
returns-in-Some g c =
    let both = c.in-Some.ensures in
    let left = c.in-Some.operands.left in
    let right = c.in-Some.operands.right in
    let sign = product_sign left.negative right.negative in
    subst₂
    (λ x y. IfSome c.multiply_numbers.result (IsNumberAnswer (constants_of g.S.Flagged)
    (IsProduct (format_of g.S.Flagged) c.args.round x y))) (sym both.0.read) (sym both.1.read)
    (answered_if_some (constants_of g.S.Flagged) c.args.round sign sign (quanta_of left * quanta_of right)
    (2 ^ (format_of g.S.Flagged).scale) c.multiply_numbers.result refl c.multiply_numbers.ensures)
