use Rattle.std.proofs.Common.{◌<◌, ap, ◌∙◌, arith}
use Rattle.apfloat_ieee.specs.FlaggedTypes.{format_of as flagged_format_of}
use Rattle.apfloat_ieee.specs.Types.{format_of}
use Rattle.small_formats.specs.declared.blocks.elements.ElementFormat.TheVariants.{E5M2, E4M3FN}
use Rattle.small_formats.specs.blocks.Elements.{e2m1fn, e2m3fn, e3m2fn, element_datum, format_of_element}
use Rattle.small_formats.proofs.blocks_lemmas.Products.{product_in, product_of_half}
use Rattle.small_formats.proofs.blocks.elements.product_of.Given.{Over}
use Rattle.small_formats.proofs.blocks.elements.product_of.Goals as goal

precise : (g : Over) → 0 < (flagged_format_of g.G.Flagged).precision
precise g = let low = g.G.Flagged.lawful.parameters.precision_low in omega (arith, low)

pub returns-in-E5M2 : goal.returns-in-E5M2
returns-in-E5M2 g c =
    rw (c.in-E5M2.is)
    (product_in (format_of_element E5M2) (format_of g.R.Semantics) (flagged_format_of g.G.Flagged) c.args.round _ _
    c.args.y _ _ (precise g) c.requires.positive
    (c.from_bits-x.ensures.read ∙ ap (element_datum E5M2) c.from.ensures) c.multiply.ensures)

pub returns-in-E4M3FN : goal.returns-in-E4M3FN
returns-in-E4M3FN g c =
    rw (c.in-E4M3FN.is)
    (product_in (format_of_element E4M3FN) (format_of g.R.Semantics) (flagged_format_of g.G.Flagged) c.args.round _ _
    c.args.y _ _ (precise g) c.requires.positive
    (c.from_bits-x-in-E4M3FN.ensures.read ∙ ap (element_datum E4M3FN) c.from-in-E4M3FN.ensures)
    c.multiply-in-E4M3FN.ensures)

pub returns-in-E3M2FN : goal.returns-in-E3M2FN
returns-in-E3M2FN g c =
    rw (c.in-E3M2FN.is)
    (product_of_half e3m2fn (format_of g.R.Semantics) (flagged_format_of g.G.Flagged) c.args.round c.args.code _
    c.args.y _ _ (precise g) c.requires.positive c.half_of.ensures c.multiply-in-E3M2FN.ensures)

pub returns-in-E2M3FN : goal.returns-in-E2M3FN
returns-in-E2M3FN g c =
    rw (c.in-E2M3FN.is)
    (product_of_half e2m3fn (format_of g.R.Semantics) (flagged_format_of g.G.Flagged) c.args.round c.args.code _
    c.args.y _ _ (precise g) c.requires.positive c.half_of-in-E2M3FN.ensures c.multiply-in-E2M3FN.ensures)

pub returns-in-E2M1FN : goal.returns-in-E2M1FN
returns-in-E2M1FN g c =
    rw (c.in-E2M1FN.is)
    (product_of_half e2m1fn (format_of g.R.Semantics) (flagged_format_of g.G.Flagged) c.args.round c.args.code _
    c.args.y _ _ (precise g) c.requires.positive c.half_of-in-E2M1FN.ensures c.multiply-in-E2M1FN.ensures)
