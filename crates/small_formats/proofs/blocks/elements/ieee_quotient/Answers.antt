use Rattle.std.proofs.Common.{ap, arith, ◌∙◌}
use Rattle.std.proofs.Math.Nat.{pow-le-pow_right}
use Rattle.apfloat_model.proofs.general.Powers.{two_pos}
use Rattle.apfloat_model.specs.{bits.Layout.datum_of, rounding.Flags.bits_of}
use Rattle.apfloat_ieee.specs.Types.{format_of, layout_of}
use Rattle.small_formats.proofs.blocks.elements.ieee_quotient.Goals as goal

pub returns-clause-code : goal.returns-clause-code
returns-clause-code g c = λ amount parts u same.
    let x = c.saturated_quotient-answer.ensures amount parts u same in
    record {
      pick = x.pick;
      is_pick = x.is_pick;
      value_is = ap (datum_of (format_of g.T.Semantics) (layout_of g.T.Semantics)) c.and.ensures.value
          ∙ c.to_bits.ensures.back ∙ x.value_is;
      status_is = ap bits_of c.and.ensures.status ∙ x.status_is;
    }

pub overflow_cast-to_bits : goal.overflow_cast-to_bits
overflow_cast-to_bits g c =
    let below = c.to_bits.ensures.below in
    let top = pow-le-pow_right two_pos c.requires.bits in
    record { fits = omega (arith, below, top) }
