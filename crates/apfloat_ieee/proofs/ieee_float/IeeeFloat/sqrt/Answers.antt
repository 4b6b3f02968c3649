use Rattle.std.proofs.Common.{arith}
use Rattle.apfloat_model.specs.rounding.Flags.{bits_of}
use Rattle.apfloat_model.proofs.arithmetic.RootLaws.{root_nearest}
use Rattle.apfloat_ieee.specs.FlaggedTypes.{format_of}
use Rattle.apfloat_ieee.proofs.ieee_float.IeeeFloat.sqrt.Goals as goal

pub returns-clause-even : goal.returns-clause-even
returns-clause-even g c = c.sqrt_r.ensures.root

pub returns-clause-away : goal.returns-clause-away
returns-clause-away g c =
    root_nearest (format_of g.S.Flagged) c.args.self c.sqrt_r.result.value (bits_of c.sqrt_r.result.status)
    (let l = g.S.Flagged.lawful.parameters.precision_low in omega arith) c.sqrt_r.ensures.member c.sqrt_r.ensures.root
