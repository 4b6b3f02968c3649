use Rattle.rustc_apfloat.specs.FlaggedTypes.{format_of}
use Rattle.apfloat_model.proofs.rounding.FlagsTogether.{product_together}
use Rattle.tests.proofs.call_statuses.product.Goals as goal

pub returns-clause-multiplies : goal.returns-clause-multiplies
returns-clause-multiplies g c = c.mul_r.ensures.product

pub returns-clause-flags : goal.returns-clause-flags
returns-clause-flags g c =
    product_together (format_of g.S.Flagged) c.args.mode c.args.x c.args.y _ _ c.mul_r.ensures.product
