use Rattle.std.proofs.Common.{ap, sym, ◌∙◌, to_z, of_z, w32}
use Rattle.apfloat_rounding.proofs.ShapeExponents.{exponent_word, max_exp_word}
use Rattle.apfloat_conversions.proofs.Steps.{largest_at_top, below_top}
use Rattle.apfloat_conversions.proofs.neighbours.is_largest.Goals as goal

pub returns-then-x-shape : goal.returns-then-x-shape
returns-then-x-shape c =
    let s = c.args.shape in
    let ex = exponent_word s c.args.x.significand c.args.x.exponent c.requires in
    largest_at_top s c.args.x.significand c.greatest_significand.result c.args.x.exponent
    c.requires (sym ex ∙ ap (to_z w32) c.if-x-shape.true ∙ max_exp_word s) c.greatest_significand.ensures.value

pub returns-else-x-shape : goal.returns-else-x-shape
returns-else-x-shape c =
    below_top c.args.shape c.args.x.significand c.args.x.exponent c.requires (λ q. c.if-x-shape.false (ap (of_z w32) q))
