use Rattle.rustc_apfloat.specs.FlaggedTypes.{constants_of}
use Rattle.coded_calls.proofs.NumberAnswers.{value_of_encoded}
use Rattle.coded_calls.proofs.answers.product_here.Goals as goal

pub returns-then-BITS-le64 : goal.returns-then-BITS-le64
returns-then-BITS-le64 g c =
    let value = value_of_encoded (constants_of g.S.Flagged) _ c.multiply_bits.result c.with_bits.result
    c.multiply_bits.ensures c.with_bits.ensures.bits c.with_bits.ensures.status c.with_bits.ensures.number in
    record { given = value.given; holds = value.holds; is_written = value.is_written }
