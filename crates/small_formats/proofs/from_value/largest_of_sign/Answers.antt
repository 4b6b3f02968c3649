use Rattle.std.proofs.Common.{ℕ, ap, ◌∙◌}
use Rattle.apfloat_model.specs.formats.Datum.{finite}
use Rattle.small_formats.specs.{Codes.point, Types.constants_of}
use Rattle.small_formats.proofs.StoredPicks.{largest_point}
use Rattle.small_formats.proofs.from_value.largest_of_sign.Goals as goal

pub returns : goal.returns
returns g c =
    let d = constants_of g.F.StorageFormat in
    c.with_sign.ensures ∙ ap (λ (n : ℕ). finite c.args.negative (point d.precision n)) c.largest_index.ensures
    ∙ ap (λ (n : ℕ). finite c.args.negative n) (largest_point d g.F.StorageFormat.lawful)
