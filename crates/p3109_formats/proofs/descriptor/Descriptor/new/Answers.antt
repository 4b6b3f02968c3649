use Rattle.std.proofs.Common.{sym, ◌∙◌}
use Rattle.p3109_formats.specs.LawTest.{projection_from_test}
use Rattle.p3109_formats.proofs.descriptor.Descriptor.new.Goals as goal

pub returns-then-is_projection-clause-lawful : goal.returns-then-is_projection-clause-lawful
returns-then-is_projection-clause-lawful c =
    projection_from_test _ (sym c.is_projection.ensures ∙ c.if-is_projection.true)
