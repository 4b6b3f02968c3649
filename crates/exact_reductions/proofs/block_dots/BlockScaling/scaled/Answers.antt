use Rattle.std.proofs.Common.{[], ◌∷◌, sym, ap, ◌∙◌, subst, arith}
use Rattle.apfloat_model.specs.declared.kinds.Round.TheVariants.{TowardZero}
use Rattle.apfloat_model.specs.{formats.Datum.Datum, order.Classes.quanta_of, rounding.Flags.bits_of}
use Rattle.small_formats.specs.blocks.Nvfp4.{IsNvScaled}
use Rattle.exact_reductions.specs.BlockDots.{AreCodes, double_format, scaled_value}
use Rattle.exact_reductions.specs.declared.block_dots.BlockScaling.{BlockScaling}
use Rattle.exact_reductions.proofs.BlockDots.{mx_value, nv_value}
use Rattle.exact_reductions.proofs.block_dots.BlockScaling.scaled.Goals as goal

pub returns-in-Mx : goal.returns-in-Mx
returns-in-Mx c =
    let scale = c.args.scale in
    let code = c.args.code in
    let codes = subst (λ (s : BlockScaling). AreCodes s (scale ∷ []) (code ∷ [])) c.in-Mx.is c.requires in
    mx_value c.in-Mx.element TowardZero scale code c.scaled.result.value (bits_of c.scaled.result.status)
    c.ranges.scale.fits (codes 0 0 (omega arith)) c.scaled.ensures
    ∙ ap (λ (s : BlockScaling). scaled_value s scale code) (sym c.in-Mx.is)

pub returns-in-Nvfp4 : goal.returns-in-Nvfp4
returns-in-Nvfp4 c =
    let scale = c.args.scale in
    let code = c.args.code in
    let answer = c.nvfp4_scaled.result in
    let codes = subst (λ (s : BlockScaling). AreCodes s (scale ∷ []) (code ∷ [])) c.in-Nvfp4.is c.requires in
    nv_value TowardZero c.in-Nvfp4.tensor scale code answer.value (bits_of answer.status) (codes.1 0 0 (omega arith))
    codes.0.member
    (subst (λ (d : Datum). IsNvScaled double_format TowardZero (quanta_of d) scale code answer.value
    (bits_of answer.status)) c.tensor_of.ensures c.nvfp4_scaled.ensures)
    ∙ ap (λ (s : BlockScaling). scaled_value s scale code) (sym c.in-Nvfp4.is)
