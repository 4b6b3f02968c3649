use Rattle.rustc_apfloat.specs.FlaggedTypes.{constants_of}
use Rattle.coded_calls.proofs.MachineAnswers.{number_on_machine}
use Rattle.coded_calls.proofs.machine_operations.fitting_converted.Goals as goal

pub returns-in-Some : goal.returns-in-Some
returns-in-Some g c =
    number_on_machine (constants_of g.S.Flagged) (constants_of g.T.Flagged) c.args.machine c.args.round c.args.x
    c.in-Some.number c.with_bits.result c.in-Some.ensures c.with_bits.ensures.bits c.with_bits.ensures.status
    c.with_bits.ensures.number

pub returns-then-is_normal_beyond_words : goal.returns-then-is_normal_beyond_words
returns-then-is_normal_beyond_words g c = c.number_converted.ensures c.args.machine
