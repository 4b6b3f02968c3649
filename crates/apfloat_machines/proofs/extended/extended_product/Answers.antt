use Rattle.std.proofs.Common.{ap, sym, ◌∙◌}
use Rattle.apfloat_model.specs.rounding.Flags.{bits_of}
use Rattle.apfloat_machines.proofs.extended.extended_product.Goals as goal

pub returns-then-is_invalid_product-clause-product : goal.returns-then-is_invalid_product-clause-product
returns-then-is_invalid_product-clause-product g c = λ machine mode h.
    rw (sym c.is_invalid_product.ensures, c.if-is_invalid_product.true)
    (record {
      value_is = rw (sym c.is_negative.ensures, sym c.is_negative-then-is_invalid_product.ensures)
          (c.and.ensures.value ∙ rw c.sign_of_product-negative.ensures at c.two.ensures);
      status_is = ap bits_of c.and.ensures.status;
    })
