use Rattle.std.proofs.Common.{◌∙◌, rules}
use Rattle.apfloat_rounding.proofs.StoredBack.{quanta_some}
use Rattle.apfloat_arithmetic.proofs.NearestMultiples.{nearest_value}
use Rattle.apfloat_arithmetic.proofs.remainders.nearest_number.Goals as goal

pub returns-clause-answer : goal.returns-clause-answer
returns-clause-answer c =
    let q = quanta_some c.args.shape _ _ c.requires.right in
    let v = nearest_value c.args.shape.nonfinite c.args.x.negative c.nearest_rest-nearest.result.past _ _ _ q
    c.nearest_rest-nearest.ensures.past c.nearest_rest-nearest.ensures.quanta in
    record { value_is = rw c.and.ensures.value (c.from_quanta.ensures.datum ∙ v); status_is = search rules }
