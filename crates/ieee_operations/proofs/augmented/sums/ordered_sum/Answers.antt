use Rattle.apfloat_model.specs.rounding.Flags.{bits_of}
use Rattle.apfloat_ieee.specs.FlaggedTypes.{format_of, constants_of}
use Rattle.ieee_operations.proofs.augmented_lemmas.{Cases.ranges_of, OrderedSums.short_in, OrderedSums.head_is_short}
use Rattle.ieee_operations.proofs.augmented_lemmas.OrderedSums.{head_is_near, head_is_largest, head_is_past}
use Rattle.ieee_operations.proofs.augmented.sums.ordered_sum.Goals as goal

pub rest_of-left-requires-clause-head : goal.rest_of-left-requires-clause-head
rest_of-left-requires-clause-head g c =
    let r = ranges_of (constants_of g.S.Flagged) g.S.Flagged.lawful in
    short_in (format_of g.S.Flagged) r.precision c.args.x c.args.y c.add_r-2.result.value
    (bits_of c.add_r-2.result.status) c.requires.left c.requires.right c.add_r-2.ensures.sum

pub returns-then-is_exactly : goal.returns-then-is_exactly
returns-then-is_exactly g c =
    let r = ranges_of (constants_of g.S.Flagged) g.S.Flagged.lawful in
    let left = c.rest_of-left.result in
    let rest = c.rest_of.result in
    head_is_short (format_of g.S.Flagged) r.precision c.args.x c.args.y c.add_r.result.value c.add_r-2.result.value
    rest.value left.value c.neg.result (bits_of c.add_r.result.status) (bits_of c.add_r-2.result.status)
    (bits_of rest.status) c.requires.left c.requires.right c.add_r.ensures.sum c.add_r-2.ensures.sum
    (c.is_number.ensures.yes c.if-is_number.true) c.rest_of.ensures.exact c.rest_of.ensures.nearest
    (c.rest_of-left.ensures.exact (c.is_exactly.ensures.ok c.if-is_exactly.true)) c.neg.ensures
    (c.is_exactly.ensures.equal c.if-is_exactly.true) c.with_tail.result.value.head c.with_tail.result.value.tail
    (bits_of c.with_tail.result.status) c.with_tail.ensures.head c.with_tail.ensures.tail c.with_tail.ensures.status

pub returns-else-is_exactly : goal.returns-else-is_exactly
returns-else-is_exactly g c =
    let r = ranges_of (constants_of g.S.Flagged) g.S.Flagged.lawful in
    let left = c.rest_of-left.result in
    let rest = c.rest_of.result in
    let answer = c.with_tail-else-is_exactly in
    head_is_near (format_of g.S.Flagged) r.precision c.args.x c.args.y c.add_r.result.value c.add_r-2.result.value
    rest.value left.value c.neg.result (bits_of c.add_r.result.status) (bits_of c.add_r-2.result.status)
    (bits_of rest.status) (bits_of left.status) c.requires.left c.requires.right c.add_r.ensures.sum
    c.add_r-2.ensures.sum (c.is_number.ensures.yes c.if-is_number.true) c.rest_of.ensures.exact
    c.rest_of.ensures.nearest c.rest_of-left.ensures.exact c.rest_of-left.ensures.nearest c.neg.ensures
    (c.is_exactly.ensures.no c.if-is_exactly.false) answer.result.value.head answer.result.value.tail
    (bits_of answer.result.status) answer.ensures.head answer.ensures.tail answer.ensures.status

pub returns-then-is_exactly-2 : goal.returns-then-is_exactly-2
returns-then-is_exactly-2 g c =
    let r = ranges_of (constants_of g.S.Flagged) g.S.Flagged.lawful in
    let left = c.rest_of-left.result in
    let answer = c.with_tail-then-is_exactly-2 in
    let test = c.is_exactly-else-is_number in
    head_is_largest (format_of g.S.Flagged) r.precision r.span c.args.x c.args.y c.add_r.result.value
    c.add_r-2.result.value left.value c.abs.result c.half_unit.result (bits_of c.add_r.result.status)
    (bits_of c.add_r-2.result.status) c.requires.left c.requires.right c.add_r.ensures.sum c.add_r-2.ensures.sum
    (c.is_number.ensures.no c.if-is_number.false)
    (c.rest_of-left.ensures.exact (test.ensures.ok c.if-is_exactly-2.true)) c.abs.ensures c.half_unit.ensures
    (test.ensures.equal c.if-is_exactly-2.true) answer.result.value.head answer.result.value.tail
    (bits_of answer.result.status) answer.ensures.head answer.ensures.tail answer.ensures.status

pub returns-else-is_exactly-2 : goal.returns-else-is_exactly-2
returns-else-is_exactly-2 g c =
    let r = ranges_of (constants_of g.S.Flagged) g.S.Flagged.lawful in
    let left = c.rest_of-left.result in
    let answer = c.past_largest in
    let test = c.is_exactly-else-is_number in
    head_is_past (format_of g.S.Flagged) r.precision r.span c.args.x c.args.y c.add_r.result.value
    c.add_r-2.result.value left.value c.abs.result c.half_unit.result (bits_of c.add_r.result.status)
    (bits_of c.add_r-2.result.status) (bits_of left.status) c.requires.left c.requires.right c.add_r.ensures.sum
    c.add_r-2.ensures.sum (c.is_number.ensures.no c.if-is_number.false) c.rest_of-left.ensures.exact
    c.rest_of-left.ensures.nearest c.abs.ensures c.half_unit.ensures (test.ensures.no c.if-is_exactly-2.false)
    answer.result.value.head answer.result.value.tail (bits_of answer.result.status) answer.ensures.head
    answer.ensures.tail answer.ensures.status
