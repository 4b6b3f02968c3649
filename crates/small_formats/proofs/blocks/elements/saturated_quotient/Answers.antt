use Rattle.std.proofs.Common.{arith}
use Rattle.apfloat_model.specs.{order.Classes.is_negative, rounding.Flags.bits_of}
use Rattle.apfloat_ieee.specs.Types.{format_of}
use Rattle.small_formats.proofs.blocks_lemmas.Quotients.{quotient_across, saturated_of}
use Rattle.small_formats.proofs.blocks.elements.saturated_quotient.Goals as goal

pub returns : goal.returns
returns g c = λ amount parts u same.
    let t = format_of g.T.Semantics in
    let low = g.T.Semantics.lawful.parameters.precision_low in
    let delivered = quotient_across (format_of g.S.Semantics) (format_of g.R.Semantics) t c.args.round c.args.x c.args.y
    c.divide-answer.result.value (bits_of c.divide-answer.result.status) amount parts (omega (arith, low))
    c.requires.finite c.requires.positive.is c.requires.positive.some c.divide-answer.ensures u same in
    rw (c.and.ensures.value, c.and.ensures.status)
    (saturated_of t c.args.round (is_negative c.args.x) amount parts (bits_of c.divide-answer.result.status)
    c.divide-answer.result.value c.saturated.result (c.requires.signed (is_negative c.args.x)) delivered
    c.saturated.ensures.finite (rw c.is_negative.ensures at c.saturated.ensures.past))
