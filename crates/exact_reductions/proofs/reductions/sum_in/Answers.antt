use Rattle.std.proofs.Common.{subst}
use Rattle.apfloat_model.specs.rounding.Flags.{bits_of}
use Rattle.apfloat_ieee.specs.FlaggedTypes.{format_of}
use Rattle.exact_reductions.specs.Reductions.{Tally, IsTotal, value_terms, tally}
use Rattle.exact_reductions.proofs.Tallies.{from_none}
use Rattle.exact_reductions.proofs.reductions.sum_in.Goals as goal

pub returns : goal.returns
returns g c =
    let f = format_of g.S.Flagged in
    subst (λ (t : Tally). IsTotal f c.args.round t c.rounded.result.value (bits_of c.rounded.result.status))
    (from_none _ _ (tally (value_terms f c.args.x.now)) c.new-sum.ensures c.add_values.ensures) c.rounded.ensures
