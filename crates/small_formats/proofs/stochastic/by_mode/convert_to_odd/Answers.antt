use Rattle.apfloat_ieee.specs.Types.{format_of}
use Rattle.small_formats.proofs.stochastic_lemmas.NumbersBy.{converted_to_odd}
use Rattle.small_formats.proofs.stochastic.by_mode.convert_to_odd.Goals as goal

pub returns : goal.returns
returns g c =
    let made = rw c.is_negative.ensures at c.to_odd.ensures.made in
    let odd = rw c.is_negative.ensures at c.to_odd.ensures.odd in
    converted_to_odd (format_of g.S.Semantics) (format_of g.T.Semantics) c.args.x c.convert_r-truncated.result
    c.to_odd.result c.convert_r-truncated.new.loses_info c.requires c.convert_r-truncated.ensures.converted
    made.status_is odd
