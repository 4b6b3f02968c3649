use Rattle.apfloat_ieee.specs.FlaggedTypes.{format_of}
use Rattle.ieee_operations.proofs.QuietNans.{nan_scaled}
use Rattle.ieee_operations.proofs.extrema.quieted.Goals as goal

pub returns : goal.returns
returns g c = nan_scaled (format_of g.S.Flagged) _ c.args.x _ _ c.requires c.scalbn.ensures
