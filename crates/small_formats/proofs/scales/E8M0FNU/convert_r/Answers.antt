use Rattle.std.proofs.Common.{◌≡◌, ◌*◌, ◌^◌, sym, ap, ◌∙◌, arith, ℕ}
use Rattle.apfloat_model.specs.rounding.Flags.{bits_of}
use Rattle.apfloat_model.proofs.arithmetic.ExactConversions.{exactly_converted}
use Rattle.apfloat_ieee.specs.FlaggedTypes.{format_of}
use Rattle.small_formats.specs.Scales.{scale_format, scale_of}
use Rattle.small_formats.proofs.Converted.{scale_converted}
use Rattle.small_formats.proofs.scales.E8M0FNU.convert_r.Goals as goal

pub returns-clause-converted : goal.returns-clause-converted
returns-clause-converted g c =
    let f = format_of g.T.Flagged in
    let code = c.self.inside.code in
    let is : c.args.self ≡ code = omega (arith, c.self.view_is) in
    let one : 1 * 2 ^ code ≡ 2 ^ c.args.self = omega arith ∙ ap (λ (n : ℕ). 2 ^ n) (sym is) in
    let delivered = rw (c.from.ensures, one) at c.convert_point.ensures.delivered in
    scale_converted f c.args.round c.args.self c.convert_point.result.value (bits_of c.convert_point.result.status) _
    (λ e. c.if-self.false (sym is ∙ e)) delivered c.convert_point.ensures.loses

pub returns-clause-exact : goal.returns-clause-exact
returns-clause-exact g c =
    exactly_converted scale_format (format_of g.T.Flagged) c.args.round (scale_of c.args.self)
    c.convert_point.result.value (bits_of c.convert_point.result.status) _ (returns-clause-converted g c)
