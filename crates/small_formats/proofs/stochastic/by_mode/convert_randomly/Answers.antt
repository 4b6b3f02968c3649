use Rattle.std.proofs.Common.{refl, ap, ◌∙◌, Bool}
use Rattle.apfloat_model.specs.rounding.Flags.{bits_of}
use Rattle.apfloat_ieee.specs.Types.{format_of}
use Rattle.small_formats.specs.stochastic.Directions.{direction}
use Rattle.small_formats.proofs.stochastic_lemmas.NumbersBy.{randomly_converted}
use Rattle.small_formats.proofs.stochastic.by_mode.convert_randomly.Goals as goal

pub returns : goal.returns
returns g c =
    let mode = c.direction.ensures ∙ ap (λ (b : Bool). direction c.rounds_away-away.result b) c.is_negative.ensures in
    randomly_converted (format_of g.S.Semantics) (format_of g.T.Semantics) c.args.bits c.args.x c.convert_r.result.value
    (bits_of c.convert_r.result.status) c.convert_r.new.loses_info c.rounds_away-away.result refl c.requires
    c.rounds_away-away.ensures (rw mode at c.convert_r.ensures.converted)
