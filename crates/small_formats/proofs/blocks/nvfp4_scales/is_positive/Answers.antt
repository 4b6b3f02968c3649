use Rattle.std.proofs.Common.{ap, not, sym, ◌∙◌}
use Rattle.std.proofs.lemmas.Bool.{not-true}
use Rattle.apfloat_model.specs.formats.{Formats.single_constants, Lawful.format_with}
use Rattle.small_formats.proofs.blocks_lemmas.NvScales.{not_positive, positive_number, positive_test}
use Rattle.small_formats.proofs.blocks.nvfp4_scales.is_positive.Goals as goal

pub returns-in-Normal-clause-test : goal.returns-in-Normal-clause-test
returns-in-Normal-clause-test c =
    ap not c.is_negative.ensures ∙ positive_test c.args.x (sym c.category.ensures.category ∙ c.in-Normal.is)

pub returns-in-Normal-clause-positive : goal.returns-in-Normal-clause-positive
returns-in-Normal-clause-positive c = λ e.
    positive_number (format_with single_constants) c.args.x (sym c.category.ensures.category ∙ c.in-Normal.is)
    (sym c.is_negative.ensures ∙ not-true _ e) c.category.ensures.member

pub returns-in_default-clause-test : goal.returns-in_default-clause-test
returns-in_default-clause-test c =
    not_positive c.args.x (λ e. c.in_default.not-Normal (c.category.ensures.category ∙ e))
