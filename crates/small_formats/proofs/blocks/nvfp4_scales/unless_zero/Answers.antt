use Rattle.std.proofs.Common.{sym, ◌∙◌}
use Rattle.apfloat_ieee.specs.Types.{format_of}
use Rattle.small_formats.proofs.blocks_lemmas.NvScales.{normal_sign, normal_stays, positive_number, zero_goes}
use Rattle.small_formats.proofs.blocks.nvfp4_scales.unless_zero.Goals as goal

pub returns-in-Normal-clause-value : goal.returns-in-Normal-clause-value
returns-in-Normal-clause-value g c =
    normal_stays c.args.x c.args.other (sym c.category.ensures.category ∙ c.in-Normal.is)

pub returns-in-Normal-clause-positive : goal.returns-in-Normal-clause-positive
returns-in-Normal-clause-positive g c =
    positive_number (format_of g.S.Semantics) c.args.x (sym c.category.ensures.category ∙ c.in-Normal.is)
    (normal_sign c.args.x c.requires.x) c.category.ensures.member

pub returns-in_default-clause-value : goal.returns-in_default-clause-value
returns-in_default-clause-value g c =
    zero_goes c.args.x c.args.other c.requires.x (λ e. c.in_default.not-Normal (c.category.ensures.category ∙ e))
