use Rattle.std.proofs.Common.{ap, ◌∙◌, ℕ}
use Rattle.p3109_formats.specs.Projections.{projected_datum}
use Rattle.p3109_formats.proofs.Codes.{coded_number}
use Rattle.p3109_formats.proofs.descriptor.Descriptor.number.Goals as goal

pub returns-clause-datum : goal.returns-clause-datum
returns-clause-datum c =
    ap (λ (code : ℕ). projected_datum c.args.self code) c.of_index.ensures.code
    ∙ coded_number c.args.self c.args.negative c.args.index c.requires.lawful c.requires.sign c.requires.index
