use Rattle.std.proofs.Common.{ℕ, ◌*◌, ◌^◌, ap, lit≤}
use Rattle.std.proofs.{Math.Nat.mul-pos, lemmas.Nat.pow_pos}
use Rattle.apfloat_model.specs.{declared.kinds.Round.TheVariants.NearestTiesToEven, order.Classes.is_finite}
use Rattle.apfloat_model.specs.{order.Classes.is_negative, order.Classes.quanta_of, rounding.Flags.bits_of}
use Rattle.apfloat_ieee.specs.Types.{format_of}
use Rattle.small_formats.specs.blocks.Nvfp4.{single_format}
use Rattle.small_formats.proofs.blocks_lemmas.NvScales.{quotient_own, scale_in_of, whole_ratio}
use Rattle.small_formats.proofs.blocks.nvfp4_scales.scale_of.Goals as goal

pub saturated_quotient-quotient-requires-clause-finite : goal.saturated_quotient-quotient-requires-clause-finite
saturated_quotient-quotient-requires-clause-finite g c = ap is_finite c.requires

pub unless_zero-requires-clause-x : goal.unless_zero-requires-clause-x
unless_zero-requires-clause-x g c =
    let scale = (format_of g.S.Semantics).scale in
    let q : ℕ = quanta_of c.args.greatest in
    let parts : ℕ = 2 ^ scale * 2688 in
    quotient_own single_format NearestTiesToEven (is_negative c.args.greatest) (q * 2 ^ 149) parts
    c.saturated_quotient-quotient.result.value (bits_of c.saturated_quotient-quotient.result.status)
    (ap is_negative c.requires)
    (c.saturated_quotient-quotient.ensures (q * 2 ^ 149) parts (mul-pos (pow_pos scale) (lit≤ tt))
    (whole_ratio q (quanta_of c.most.result) scale 2688 149 24 c.most.ensures.value))

-- the quotient by 2688 * 2 ^ 24 quanta of half
pub returns : goal.returns
returns g c =
    let scale = (format_of g.S.Semantics).scale in
    let q : ℕ = quanta_of c.args.greatest in
    let parts : ℕ = 2 ^ scale * 2688 in
    scale_in_of single_format NearestTiesToEven (is_negative c.args.greatest) (q * 2 ^ 149) parts (2 ^ 149)
    c.saturated_quotient-quotient.result.value c.one.result c.unless_zero.result
    (bits_of c.saturated_quotient-quotient.result.status) (ap is_negative c.requires)
    (c.saturated_quotient-quotient.ensures (q * 2 ^ 149) parts (mul-pos (pow_pos scale) (lit≤ tt))
    (whole_ratio q (quanta_of c.most.result) scale 2688 149 24 c.most.ensures.value))
    c.one.ensures.value c.unless_zero.ensures.value
