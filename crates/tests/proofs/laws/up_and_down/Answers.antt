use Rattle.rustc_apfloat.specs.{Rounding.ok_bits, FlaggedTypes.format_of}
use Rattle.apfloat_model.proofs.Once.{next_down_once}
use Rattle.tests.proofs.laws.up_and_down.Goals as goal

pub returns : goal.returns
returns g c = λ kind number.
    (next_down_once (format_of g.S.Flagged) c.next_up.result.value _ _ _ ok_bits c.next_down.ensures
    (c.next_up.ensures.back kind number)).0
