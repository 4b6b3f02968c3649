use Rattle.std.proofs.Common.{◌==◌, not, sym, ◌∙◌, ap}
use Rattle.std.specs.Int.RustNames.{bit_and}
use Rattle.commands.proofs.FlagNames.{name_none, name_more, name_same, name_all}
use Rattle.commands.proofs.output.write_status.Goals as goal
use Rattle.commands.proofs.output.write_status.Goals.{then-intersects+in_ok-write_name, else-intersects}

pub loop-flag-init : goal.loop-flag-init
loop-flag-init g c = name_none _ _ _

pub loop-flag-preserved : goal.loop-flag-preserved
loop-flag-preserved g c =
    let bits = ap (λ value. not (bit_and c.args.status.0 value.0 == 0)) c.value.ensures in
    let test = sym (c.intersects.ensures tt ∙ bits) in
    elim c.if-intersects.branch [
      | then-intersects+in_ok-write_name w ↦
          rw (w.out-is, w.separator-is)
          (name_more _ _ _ _ _ _ _ _ _ _ c.loop-flag-test.true (test ∙ w.if-intersects.true) w.name.ensures
          c.loop-flag.invariant w.in_ok-write_name.ensures)
      | else-intersects w ↦
          rw (w.out-is, w.separator-is)
          (name_same _ _ _ _ _ _ _ _ c.loop-flag-test.true (test ∙ w.if-intersects.false) c.loop-flag.invariant)
    ]

pub returns : goal.returns
returns g c =
    name_all _ _ _ _ _ _ _ c.loop-flag-test.false (c.flags-flag-items.ensures tt)
    (sym (c.is_empty.ensures tt) ∙ c.if-is_empty.false) c.loop-flag.invariant
