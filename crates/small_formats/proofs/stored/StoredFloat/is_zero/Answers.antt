use Rattle.std.proofs.Common.{◌∙◌, ap, arith, eqb, ℕ}
use Rattle.small_formats.specs.Types.{constants_of}
use Rattle.small_formats.proofs.CodesCompared.{zero_code}
use Rattle.small_formats.proofs.stored.StoredFloat.is_zero.Goals as goal

pub returns : goal.returns
returns g c =
    let d = constants_of g.F.StorageFormat in
    let low = g.F.StorageFormat.lawful.precision_low in
    ap (λ (n : ℕ). eqb n 0) c.magnitude.ensures.value ∙ zero_code d.precision _ (omega (arith, low))
