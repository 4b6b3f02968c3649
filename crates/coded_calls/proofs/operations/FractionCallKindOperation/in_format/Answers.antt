use Rattle.std.proofs.Common.{refl}
use Rattle.coded_calls.specs.declared.exported_call.ExportedCall.TheVariants.{Fraction}
use Rattle.rustc_apfloat.specs.FlaggedTypes.{constants_of}
use Rattle.coded_calls.proofs.WrittenAnswers.{fraction_fits}
use Rattle.coded_calls.proofs.operations.FractionCallKindOperation.in_format.Goals as goal

pub fraction-requires-clause-fits : goal.fraction-requires-clause-fits
fraction-requires-clause-fits g c =
    fraction_fits (constants_of g.S.Flagged) g.S.Flagged.lawful (Fraction c.args.self.x) c.args.self.x _ refl
    c.from_bits.ensures.read c.category.ensures.member
