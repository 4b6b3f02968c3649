use Rattle.std.proofs.Common.{sym, ◌∙◌}
use Rattle.std.proofs.lemmas.Bool.{false≢true}
use Rattle.apfloat_model.specs.rounding.Flags.{bits_of}
use Rattle.apfloat_ieee.specs.FlaggedTypes.{format_of}
use Rattle.ieee_operations.proofs.augmented_lemmas.ProductCases.{exact_product}
use Rattle.ieee_operations.proofs.augmented.products.within_product.Goals as goal

pub returns-then-is_ok : goal.returns-then-is_ok
returns-then-is_ok g c =
    let rest = c.wide_mul_add_r-rest.result in
    let answer = c.augmented_add.result in
    exact_product (format_of g.S.Flagged) c.args.x c.args.y c.args.near rest.value (bits_of rest.status)
    c.requires.product.left c.requires.product.right c.requires.near.is_finite
    (rw c.neg.ensures at c.wide_mul_add_r-rest.ensures) (c.is_ok.ensures.yes c.if-is_ok.true)
    answer.value.head answer.value.tail (bits_of answer.status) c.augmented_add.ensures

pub tiny_product-requires-clause-lost : goal.tiny_product-requires-clause-lost
tiny_product-requires-clause-lost g c =
    let rest = c.wide_mul_add_r-rest.result in
    record {
      rest = rest.value;
      status = bits_of rest.status;
      is = rw c.neg.ensures at c.wide_mul_add_r-rest.ensures;
      not_ok = λ o. false≢true (sym c.if-is_ok.false ∙ c.is_ok.ensures.no o);
    }
