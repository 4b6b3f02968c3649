use Rattle.std.proofs.Common.{ap, ◌∙◌}
use Rattle.apfloat_model.specs.{declared.loss.Loss.Loss, rounding.Enclosure.rounds_up}
use Rattle.apfloat_rounding.proofs.rounding.moves_up.Goals as goal

pub returns : goal.returns
returns c =
    c.moves_past.ensures ∙ ap (λ (x : Loss). rounds_up c.args.mode c.args.negative x c.args.odd) c.quarters.ensures.same
