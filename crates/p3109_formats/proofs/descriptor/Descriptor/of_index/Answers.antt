use Rattle.std.proofs.Common.{arith}
use Rattle.p3109_formats.proofs.Codes.{minus_fits, plain_fits}
use Rattle.p3109_formats.proofs.descriptor.Descriptor.of_index.Goals as goal

pub returns-then-index-ne0-clause-below : goal.returns-then-index-ne0-clause-below
returns-then-index-ne0-clause-below c =
    let fits = minus_fits c.args.self c.args.index c.requires.lawful (c.requires.sign c.if-negative.true)
    c.requires.index in
    omega (arith, c.unsigned_codes.ensures, fits)

pub returns-else-negative-clause-below : goal.returns-else-negative-clause-below
returns-else-negative-clause-below c = plain_fits c.args.self c.args.index c.requires.lawful c.requires.index
