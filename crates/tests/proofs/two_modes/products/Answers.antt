use Rattle.rustc_apfloat.specs.{Products.IsProduct, TwoModes.IsOk, FlaggedTypes.format_of}
use Rattle.apfloat_model.proofs.rounding.{ModesAgree.product_agrees, OutwardResults.product_encloses}
use Rattle.tests.proofs.TwoModes.{in_modes}
use Rattle.tests.proofs.two_modes.products.Goals as goal

pub returns : goal.returns
returns g c =
    in_modes IsOk (λ mode. IsProduct (format_of g.S.Flagged) mode c.args.x c.args.y)
    (product_agrees (format_of g.S.Flagged) c.args.x c.args.y)
    (product_encloses (format_of g.S.Flagged) c.args.x c.args.y)
    c.args.mode c.args.other _ _ c.mul_r.ensures.product c.mul_r-2.ensures.product
