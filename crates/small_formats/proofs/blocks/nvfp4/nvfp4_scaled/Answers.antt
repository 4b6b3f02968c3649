use Rattle.std.proofs.Common.{ap, ◌∙◌, refl, arith}
use Rattle.std.proofs.lemmas.Bool.{eq-eqb, ne_eqb}
use Rattle.apfloat_model.specs.{declared.kinds.Round.TheVariants.NearestTiesToEven, order.Classes.quanta_of}
use Rattle.apfloat_model.specs.rounding.Flags.{bits_of}
use Rattle.apfloat_model.proofs.general.Choices.{match_false, match_true}
use Rattle.apfloat_ieee.specs.FlaggedTypes.{format_of}
use Rattle.small_formats.specs.declared.blocks.elements.ElementFormat.TheVariants.{E4M3FN}
use Rattle.small_formats.specs.blocks.Elements.{element_datum}
use Rattle.small_formats.proofs.blocks_lemmas.NvProducts.{element_by, scaled_by}
use Rattle.small_formats.proofs.blocks.nvfp4.nvfp4_scaled.Goals as goal

pub returns-then-scale-eq-NAN_SCALE : goal.returns-then-scale-eq-NAN_SCALE
returns-then-scale-eq-NAN_SCALE g c =
    match_true _ _ _ (eq-eqb c.args.scale 127 c.if-scale-eq-NAN_SCALE.true)
    (record { value_is = c.and.ensures.value ∙ c.qnan.ensures; status_is = ap bits_of c.and.ensures.status })

pub returns : goal.returns
returns g c =
    let low = g.G.Flagged.lawful.parameters.precision_low in
    let most = c.requires.scale in
    let off = c.if-scale-eq-NAN_SCALE.false in
    let t = quanta_of c.args.tensor in
    match_false _ _ _ (ne_eqb c.args.scale 127 off)
    (scaled_by (format_of g.G.Flagged) c.args.round c.args.code c.args.scale t c.product_of-element.result.value
    c.from_bits-scale.result c.multiply.result.value (bits_of c.multiply.result.status) (omega (arith, low))
    (omega (arith, most, off))
    (element_by NearestTiesToEven c.args.code t c.product_of-element.result.value
    (bits_of c.product_of-element.result.status) c.requires.tensor.member (c.product_of-element.ensures t 149 refl))
    (c.from_bits-scale.ensures.read ∙ ap (element_datum E4M3FN) c.from.ensures) c.multiply.ensures)
