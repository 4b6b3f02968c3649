use Rattle.std.proofs.Common.{ℕ, ◌+◌, ap}
use Rattle.small_formats.specs.Types.{constants_of}
use Rattle.small_formats.proofs.StoredNumbers.{datum_is}
use Rattle.small_formats.proofs.stored.StoredFloat.with_sign.Goals as goal

pub returns : goal.returns
returns g c =
    datum_is (constants_of g.F.StorageFormat) c.args.magnitude _ c.args.negative c.requires
    (ap (λ (n : ℕ). n + c.args.magnitude) c.sign_code.ensures)
