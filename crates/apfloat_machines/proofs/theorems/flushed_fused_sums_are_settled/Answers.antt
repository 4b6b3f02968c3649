use Rattle.apfloat_machines.proofs.FlushedSettling.{fused_is_flushed_and_settled}
use Rattle.apfloat_machines.proofs.theorems.flushed_fused_sums_are_settled.Goals as goal

pub returns : goal.returns
returns c = λ f machine x y z answer result h.
    fused_is_flushed_and_settled f machine x y z answer result h.value_is h.status_is
