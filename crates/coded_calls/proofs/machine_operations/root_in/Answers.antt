use Rattle.std.proofs.Common.{ap, sym, ◌∙◌}
use Rattle.rustc_apfloat.specs.{Flags.bits_of, FlaggedTypes.constants_of, Lawful.format_with}
use Rattle.apfloat_machines.specs.Nans.{default_nan}
use Rattle.coded_calls.proofs.UsualAnswers.{negative_root, usual_root}
use Rattle.coded_calls.proofs.machine_operations.root_in.Goals as goal

pub returns-then-is_root_of : goal.returns-then-is_root_of
returns-then-is_root_of g c = λ infinite.
    usual_root (constants_of g.S.Flagged) c.args.machine c.args.round c.args.x c.args.answer.now c.root_here.new.answer
    (sym c.is_root_of.ensures ∙ c.if-is_root_of.true) c.root_here.ensures

pub returns-then-is_divisor : goal.returns-then-is_divisor
returns-then-is_divisor g c = λ infinite.
    let k = constants_of g.S.Flagged in
    negative_root k c.args.machine c.args.round c.args.x c.args.answer.now c.written.result c.and.result
    (sym c.is_divisor.ensures ∙ c.if-is_divisor.true) (sym c.is_root_of.ensures ∙ c.if-is_root_of.false)
    (record {
      value_is = c.and.ensures.value ∙ c.default_nan.ensures ∙ ap (default_nan (format_with k)) c.choices.ensures;
      status_is = ap bits_of c.and.ensures.status;
    })
    c.written.ensures
