use Rattle.std.proofs.Common.{ℕ, ◌*◌, ◌^◌, ap, sym, ◌∙◌}
use Rattle.apfloat_model.specs.order.Classes.{quanta_of}
use Rattle.apfloat_ieee.specs.Types.{format_of}
use Rattle.small_formats.proofs.blocks_lemmas.{Greatest.zero_test, NvScales.scale_of_code}
use Rattle.small_formats.proofs.blocks.nvfp4_scales.nvfp4_scale.Goals as goal

pub returns-clause-code : goal.returns-clause-code
returns-clause-code g c =
    let scale = c.scale_for-scale in
    (scale_of_code (format_of g.S.Semantics) c.args.round (quanta_of c.args.tensor) (quanta_of c.args.greatest)
    c.code_for.result c.is_zero.result scale.result c.code_for.ensures.below
    (c.is_zero.ensures ∙ zero_test c.args.greatest c.requires.sign) c.code_for.ensures.zero c.code_for.ensures.some
    scale.ensures.positive.some scale.ensures.value).is_scale

pub returns-clause-divisor : goal.returns-clause-divisor
returns-clause-divisor g c =
    let scale = c.scale_for-scale in
    let chosen = scale_of_code (format_of g.S.Semantics) c.args.round (quanta_of c.args.tensor)
    (quanta_of c.args.greatest) c.code_for.result c.is_zero.result scale.result c.code_for.ensures.below
    (c.is_zero.ensures ∙ zero_test c.args.greatest c.requires.sign) c.code_for.ensures.zero c.code_for.ensures.some
    scale.ensures.positive.some scale.ensures.value in
    ap (λ (n : ℕ). n * quanta_of c.args.tensor * 2 ^ 1074) chosen.divisor_is ∙ sym c.joint_scale-divisor.ensures.value
