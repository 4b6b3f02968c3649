use Rattle.std.proofs.Common.{lit<}
use Rattle.rustc_apfloat.specs.FlaggedTypes.{constants_of}
use Rattle.apfloat_arrays.proofs.stored.code_tables.CodesByteResults.fill_bytes.Goals as goal

pub fill_codes-requires-clause-written : goal.fill_codes-requires-clause-written
fill_codes-requires-clause-written g c = (c.requires.has 0 (lit< tt)).0

pub returns : goal.returns
returns g c =
    c.copy_codes.ensures c.args.self.now.overflow c.args.self.now.source (constants_of g.T.Flagged)
    c.args.self.now.round
    c.codes_of-codes.ensures.is c.fill_codes.ensures
