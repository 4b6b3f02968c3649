use Rattle.std.proofs.Common.{ap}
use Rattle.apfloat_arrays.specs.scaled_blocks.Lengths.{if_scaled}
use Rattle.apfloat_arrays.proofs.scaled_blocks.lengths.blocks_in.Goals as goal

pub returns-in-Err-clause-count : goal.returns-in-Err-clause-count
returns-in-Err-clause-count c = ap (if_scaled c.args.format) c.in-Err.ensures
