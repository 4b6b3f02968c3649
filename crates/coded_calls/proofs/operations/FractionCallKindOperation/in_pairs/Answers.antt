use Rattle.std.proofs.Common.{refl}
use Rattle.coded_calls.specs.declared.exported_call.ExportedCall.TheVariants.{Fraction}
use Rattle.coded_calls.proofs.WrittenAnswers.{pair_fraction_fits}
use Rattle.coded_calls.proofs.operations.FractionCallKindOperation.in_pairs.Goals as goal

pub fraction-requires-clause-fits : goal.fraction-requires-clause-fits
fraction-requires-clause-fits c =
    pair_fraction_fits (Fraction c.args.self.x) c.args.self.x _ refl c.from_bits.ensures c.category.ensures.high
