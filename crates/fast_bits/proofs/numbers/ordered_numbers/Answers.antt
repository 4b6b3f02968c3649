use Rattle.std.proofs.{Common.leb, Common.arith, lemmas.Bool.leb-true, lemmas.Bool.leb-false}
use Rattle.apfloat_ieee.specs.FlaggedTypes.{constants_of}
use Rattle.apfloat_model.proofs.bits.Encodings.{lawful_interchange}
use Rattle.fast_bits.proofs.OrderedNumbers.{numbers_in_order, some_above}
use Rattle.fast_bits.proofs.numbers.ordered_numbers.Goals as goal

pub overflow_sub-result : goal.overflow_sub-result
overflow_sub-result g c =
    let left = c.magnitude_of-left.result in
    let right = c.magnitude_of-right.result in
    let known = c.are_normal.ensures c.if-are_normal.true in
    some_above (constants_of g.S.Flagged) c.args.x c.args.y left right c.either-high.result c.either-low.result
    c.biased_exponent-above.result c.biased_exponent-below.result (leb right left)
    (lawful_interchange (constants_of g.S.Flagged) g.S.Flagged.lawful c.requires.bits) c.requires.word.implied
    c.magnitude_of-left.ensures c.magnitude_of-right.ensures (leb-true right left)
    (λ e. let less = leb-false right left e in omega (arith, less)) c.either-high.ensures c.either-low.ensures
    c.biased_exponent-above.ensures.value c.biased_exponent-below.ensures.value c.biased_exponent-above.ensures.bound
    known.0 known.1

pub returns-then-are_normal : goal.returns-then-are_normal
returns-then-are_normal g c =
    let left = c.magnitude_of-left.result in
    let right = c.magnitude_of-right.result in
    let known = c.are_normal.ensures c.if-are_normal.true in
    numbers_in_order (constants_of g.S.Flagged) c.args.x c.args.y left right c.either-high.result
    c.either-low.result c.biased_exponent-above.result c.biased_exponent-below.result c.significand_of.result
    c.significand_of-then-are_normal.result c.args.changed (leb right left) c.is_minus-left_sign.result
    c.is_minus.result c.either.result c.either-then-are_normal.result
    (lawful_interchange (constants_of g.S.Flagged) g.S.Flagged.lawful c.requires.bits) c.requires.word.implied
    c.magnitude_of-left.ensures c.magnitude_of-right.ensures (leb-true right left)
    (λ e. let less = leb-false right left e in omega (arith, less)) c.either-high.ensures c.either-low.ensures
    c.biased_exponent-above.ensures.value c.biased_exponent-below.ensures.value c.biased_exponent-above.ensures.bound
    known.0 known.1 c.is_minus-left_sign.ensures c.is_minus.ensures c.either.ensures
    c.either-then-are_normal.ensures c.significand_of.ensures.value c.significand_of-then-are_normal.ensures.value
