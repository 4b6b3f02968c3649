use Rattle.std.proofs.Common.{◌≡◌, true, refl, subst, sym}
use Rattle.rustc_apfloat.specs.{Flags.Gives, FlaggedTypes.format_of}
use Rattle.apfloat_machines.specs.{declared.machine.Machine.Machine, Operations.IsMachineFusedSum}
use Rattle.coded_calls.proofs.machine_operations.settled_fused_sum.Goals as goal

pub returns-in-None : goal.returns-in-None
returns-in-None g c = λ infinite. rw (sym c.choices.ensures, c.in-None.ensures) (refl, refl)

pub returns-in-Some : goal.returns-in-Some
returns-in-Some g c = λ infinite.
    let f = format_of g.S.Flagged in
    let settled = subst
    (λ (on : Machine). Gives
    (IsMachineFusedSum f on c.args.round c.value-x.result c.value-y.result c.value-z.result) c.in-Some.sum)
    c.choices.ensures (c.in-Some.ensures.1.fused_sum infinite c.args.round c.wide_mul_add_r.ensures) in
    let has = subst (λ (on : Machine). on.has_fused ≡ true) c.choices.ensures c.in-Some.ensures.0 in
    rw (has, sym c.value-x.ensures, sym c.value-y.ensures, sym c.value-z.ensures)
    (refl, record { given = c.in-Some.sum; holds = settled; is_written = c.written.ensures })
