use Rattle.std.proofs.{Common.false, Common.sym, Math.Path.subst₂}
use Rattle.std.specs.Prelude.{IfSome}
use Rattle.apfloat_model.specs.arithmetic.Sums.{IsSum}
use Rattle.apfloat_ieee.specs.FlaggedTypes.{constants_of, format_of}
use Rattle.fast_bits.specs.{Encoded.IsNumberAnswer, Numbers.opposite_if}
use Rattle.fast_bits.proofs.OrderedNumbers.{ordered_sum}
use Rattle.fast_bits.proofs.sums.add_words.Goals as goal

pub returns-in-Some : goal.returns-in-Some
returns-in-Some g c =
    let are = c.in-Some.ensures.0 in
    let numbers = c.in-Some.numbers in
    subst₂
    (λ x y. IfSome c.add_ordered.result (IsNumberAnswer (constants_of g.S.Flagged)
    (IsSum (format_of g.S.Flagged) c.args.round x y))) (sym are.of_left.read) (sym are.of_right.read)
    (ordered_sum (constants_of g.S.Flagged) c.args.round c.add_ordered.result are.left
    (opposite_if false are.right) numbers.high numbers.low are.same c.add_ordered.ensures)
