use Rattle.std.proofs.Common.{refl, inl, inr}
use Rattle.apfloat_model.specs.rounding.Flags.{bits_of}
use Rattle.apfloat_ieee.specs.FlaggedTypes.{format_of}
use Rattle.ieee_operations.proofs.augmented_lemmas.ProductCases.{product_of_others}
use Rattle.ieee_operations.proofs.augmented.products.augmented_multiply.Goals as goal
use Rattle.ieee_operations.proofs.augmented.products.augmented_multiply.Goals.{else-is_nonzero-via-then-is_nonzero+else-is_nonzero-2}
use Rattle.ieee_operations.proofs.augmented.products.augmented_multiply.Goals.{else-is_nonzero-via-else-is_nonzero}

pub returns-else-is_nonzero : goal.returns-else-is_nonzero
returns-else-is_nonzero g c =
    let f = format_of g.S.Flagged in
    let answer = c.wide_mul_r.result in
    rw (c.both.ensures.head, c.both.ensures.tail, c.both.ensures.status)
    (product_of_others f answer.value answer.value (bits_of answer.status) refl c.args.x c.args.y
    (elim c.else-is_nonzero.branch [
      | else-is_nonzero-via-then-is_nonzero+else-is_nonzero-2 w ↦
          inr (w.is_nonzero-then-is_nonzero.ensures.no w.if-is_nonzero-2.false)
      | else-is_nonzero-via-else-is_nonzero w ↦ inl (c.is_nonzero.ensures.no w.if-is_nonzero.false)
    ])
    c.wide_mul_r.ensures)
