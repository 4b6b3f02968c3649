use Rattle.apfloat_rounding.specs.{Shapes.format_at, Stored.datum_at}
use Rattle.apfloat_model.proofs.arithmetic.ExactConversions.{exactly_converted}
use Rattle.apfloat_conversions.proofs.ConvertedValues.{of_number, of_zero}
use Rattle.apfloat_conversions.proofs.between_formats.convert_apart.Goals as goal

pub returns-in-Normal-clause-converted : goal.returns-in-Normal-clause-converted
returns-in-Normal-clause-converted c =
    of_number c.args.from c.args.into c.args.round c.args.x.category c.args.x _ _ _ c.in-Normal.is
    c.requires c.converted_number.ensures.converted

pub returns-in-Normal-clause-exact : goal.returns-in-Normal-clause-exact
returns-in-Normal-clause-exact c =
    let h = of_number c.args.from c.args.into c.args.round c.args.x.category c.args.x _ _ _ c.in-Normal.is
    c.requires c.converted_number.ensures.converted in
    exactly_converted (format_at c.args.from) (format_at c.args.into) c.args.round
    (datum_at c.args.from c.args.x) _ _ _ h

pub returns-in-Zero-clause-exact : goal.returns-in-Zero-clause-exact
returns-in-Zero-clause-exact c =
    let h = of_zero c.args.from c.args.into c.args.round c.args.x.category c.args.x _ _ _ c.in-Zero.is
    c.converted_zero.ensures.converted in
    exactly_converted (format_at c.args.from) (format_at c.args.into) c.args.round
    (datum_at c.args.from c.args.x) _ _ _ h
