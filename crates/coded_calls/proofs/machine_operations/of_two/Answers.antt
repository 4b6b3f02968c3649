use Rattle.std.proofs.Common.{refl, subst, sym}
use Rattle.rustc_apfloat.specs.{FlaggedTypes.constants_of, Lawful.format_with}
use Rattle.apfloat_machines.specs.{declared.machine.Machine.Machine, Operations.AreSettled}
use Rattle.coded_calls.proofs.MachineAnswers.{settled_of_two}
use Rattle.coded_calls.proofs.machine_operations.of_two.Goals as goal

pub returns-then-not-both_fit : goal.returns-then-not-both_fit
returns-then-not-both_fit g c = λ infinite. rw (sym c.both_fit.ensures, c.if-not-both_fit.true) (refl, refl)

pub returns : goal.returns
returns g c = λ infinite.
    let k = constants_of g.S.Flagged in
    let settled = settled_of_two k c.args.machine c.args.arithmetic c.args.round c.value-x.result c.value-y.result
    c.answer.result c.settled.result c.answer.ensures
    (subst
    (λ (on : Machine). AreSettled (format_with k) on c.value-x.result c.value-y.result c.answer.result
    c.settled.result)
    c.choices.ensures (c.settled.ensures.operations infinite)) in
    rw (sym c.both_fit.ensures, c.if-not-both_fit.false, sym c.value-x.ensures, sym c.value-y.ensures)
    (refl, record { given = c.settled.result; holds = settled; is_written = c.written.ensures })
