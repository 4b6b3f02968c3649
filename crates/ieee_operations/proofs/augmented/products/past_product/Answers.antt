use Rattle.std.proofs.Common.{sym, ◌∙◌}
use Rattle.std.proofs.lemmas.Bool.{false≢true}
use Rattle.apfloat_model.specs.rounding.Flags.{bits_of}
use Rattle.apfloat_ieee.specs.FlaggedTypes.{format_of, constants_of}
use Rattle.ieee_operations.proofs.augmented_lemmas.Cases.{ranges_of}
use Rattle.ieee_operations.proofs.augmented_lemmas.ProductCases.{exact_product, product_is_past, short_is_finite}
use Rattle.ieee_operations.proofs.augmented.products.past_product.Goals as goal

pub returns-then-is_ok : goal.returns-then-is_ok
returns-then-is_ok g c =
    let f = format_of g.S.Flagged in
    let r = ranges_of (constants_of g.S.Flagged) g.S.Flagged.lawful in
    let short = c.wide_mul_r-largest.result in
    let rest = c.wide_mul_add_r-rest.result in
    let answer = c.augmented_add.result in
    let finite = short_is_finite f r.precision c.args.x c.args.y c.args.near short.value (bits_of short.status)
    c.requires.product c.requires.past c.wide_mul_r-largest.ensures in
    exact_product f c.args.x c.args.y short.value rest.value (bits_of rest.status) c.requires.product.left
    c.requires.product.right finite
    (rw c.neg.ensures at c.wide_mul_add_r-rest.ensures) (c.is_ok.ensures.yes c.if-is_ok.true) answer.value.head
    answer.value.tail (bits_of answer.status) c.augmented_add.ensures

pub returns-else-is_ok : goal.returns-else-is_ok
returns-else-is_ok g c =
    let f = format_of g.S.Flagged in
    let r = ranges_of (constants_of g.S.Flagged) g.S.Flagged.lawful in
    let short = c.wide_mul_r-largest.result in
    let rest = c.wide_mul_add_r-rest.result in
    let answer = c.past_largest.result in
    product_is_past f r.precision r.span c.args.x c.args.y c.args.near short.value rest.value (bits_of short.status)
    (bits_of rest.status) c.requires.product c.requires.past c.wide_mul_r-largest.ensures
    (rw c.neg.ensures at c.wide_mul_add_r-rest.ensures)
    (λ o. false≢true (sym c.if-is_ok.false ∙ c.is_ok.ensures.no o)) answer.value.head answer.value.tail
    (bits_of answer.status) c.past_largest.ensures.head c.past_largest.ensures.tail c.past_largest.ensures.status
