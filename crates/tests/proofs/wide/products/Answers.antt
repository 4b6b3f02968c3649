use Rattle.rustc_apfloat.specs.{FlaggedTypes.format_of, Products.IsProduct}
use Rattle.apfloat_model.proofs.{Once.product_once, Determined.gives_once}
use Rattle.tests.proofs.wide.products.Goals as goal

pub returns : goal.returns
returns g c =
    let format = format_of g.S.Flagged in
    gives_once (IsProduct format c.args.mode c.args.x c.args.y) (product_once format c.args.mode c.args.x c.args.y)
    c.wide_mul_r.result c.mul_r.result c.wide_mul_r.ensures c.mul_r.ensures.product
