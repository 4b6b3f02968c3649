use Rattle.std.proofs.Common.{ap, ◌∙◌, ℕ}
use Rattle.p3109_formats.specs.Projections.{projected_datum}
use Rattle.p3109_formats.proofs.Codes.{nan_of_code}
use Rattle.p3109_formats.proofs.descriptor.Descriptor.nan.Goals as goal

pub returns-clause-datum : goal.returns-clause-datum
returns-clause-datum c =
    ap (λ (code : ℕ). projected_datum c.args.self code) c.nan_code.ensures.value ∙ nan_of_code c.args.self
