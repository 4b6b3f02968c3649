use Rattle.std.proofs.Common.{ap, ◌∙◌}
use Rattle.apfloat_model.specs.rounding.Flags.{bits_of}
use Rattle.small_formats.specs.{Codes.datum_of, Types.constants_of}
use Rattle.small_formats.proofs.blocks.elements.stored_quotient.Goals as goal

pub returns-clause-code : goal.returns-clause-code
returns-clause-code g c = λ amount parts u same.
    let x = c.from_quotient-answer.ensures amount parts u same in
    record {
      pick = x.pick;
      is_pick = x.is_pick;
      value_is = ap (datum_of (constants_of g.F.StorageFormat)) (c.and.ensures.value ∙ c.to_bits.ensures.code)
          ∙ x.value_is;
      status_is = ap bits_of c.and.ensures.status ∙ x.status_is;
    }
