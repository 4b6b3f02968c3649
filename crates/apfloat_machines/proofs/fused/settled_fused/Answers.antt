use Rattle.std.proofs.Common.{rules}
use Rattle.apfloat_ieee.specs.FlaggedTypes.{format_of}
use Rattle.apfloat_machines.proofs.Settling.{fused_is_settled}
use Rattle.apfloat_machines.proofs.fused.settled_fused.Goals as goal

pub returns-then-machine : goal.returns-then-machine
returns-then-machine g c = (
  search rules,
  record {
    value_is = c.with_nan.ensures.value;
    status_is = c.with_nan.ensures.status;
    fused_sum = fused_is_settled (format_of g.S.Flagged) c.args.machine c.args.x c.args.y c.args.z c.args.answer
        c.with_nan.result c.with_nan.ensures.value c.with_nan.ensures.status;
  },
)
