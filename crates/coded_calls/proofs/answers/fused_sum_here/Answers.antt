use Rattle.rustc_apfloat.specs.FlaggedTypes.{constants_of}
use Rattle.coded_calls.proofs.NumberAnswers.{value_of_encoded}
use Rattle.coded_calls.proofs.answers.fused_sum_here.Goals as goal

pub returns-in-Some : goal.returns-in-Some
returns-in-Some g c =
    let number =
    rw (c.word_of-left.ensures, c.word_of-right.ensures, c.word_of-addend.ensures) at c.in-Some.ensures.is_answer in
    let value = value_of_encoded (constants_of g.S.Flagged) _ c.in-Some.sum c.with_bits.result number
    c.with_bits.ensures.bits c.with_bits.ensures.status c.with_bits.ensures.number in
    record { given = value.given; holds = value.holds; is_written = value.is_written }
