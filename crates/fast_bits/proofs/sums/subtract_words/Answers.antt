use Rattle.std.proofs.{Common.true, Common.sym, Common.subst, Math.Path.subst₂}
use Rattle.std.specs.Prelude.{IfSome}
use Rattle.apfloat_model.specs.arithmetic.Sums.{IsDifference, IsSum}
use Rattle.apfloat_model.specs.formats.Datum.{Datum, finite}
use Rattle.apfloat_model.proofs.rounding.Laws.{number_swapped}
use Rattle.apfloat_ieee.specs.FlaggedTypes.{constants_of, format_of}
use Rattle.fast_bits.specs.{Encoded.IsNumberAnswer, Numbers.opposite_if, Numbers.quanta_of}
use Rattle.fast_bits.proofs.{Operands.quanta_some, OrderedNumbers.ordered_sum}
use Rattle.fast_bits.proofs.sums.subtract_words.Goals as goal

pub returns-in-Some : goal.returns-in-Some
returns-in-Some g c =
    let are = c.in-Some.ensures.0 in
    let numbers = c.in-Some.numbers in
    let left = are.left in
    let right = are.right in
    let difference =
    subst
    (λ (y : Datum). IfSome c.add_ordered.result (IsNumberAnswer (constants_of g.S.Flagged)
    (IsSum (format_of g.S.Flagged) c.args.round (finite left.negative (quanta_of left)) y)))
    (number_swapped g.S.Flagged.NONFINITE_BEHAVIOR right.negative (quanta_of right)
    (quanta_some (constants_of g.S.Flagged) right are.of_right.is_full))
    (ordered_sum (constants_of g.S.Flagged) c.args.round c.add_ordered.result left (opposite_if true right)
    numbers.high numbers.low are.same c.add_ordered.ensures) in
    subst₂
    (λ x y. IfSome c.add_ordered.result (IsNumberAnswer (constants_of g.S.Flagged)
    (IsDifference (format_of g.S.Flagged) c.args.round x y))) (sym are.of_left.read) (sym are.of_right.read) difference
