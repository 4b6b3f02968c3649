use Rattle.std.proofs.Common.{arith}
use Rattle.p3109_formats.proofs.Codes.{minus_fits}
use Rattle.p3109_formats.proofs.descriptor.Descriptor.nan_code.Goals as goal

pub returns-then-self-clause-below : goal.returns-then-self-clause-below
returns-then-self-clause-below c =
    let fits = minus_fits c.args.self 0 c.requires c.if-self.true (omega arith) in
    omega (arith, c.unsigned_codes.ensures, fits)
