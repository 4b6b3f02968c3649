use Rattle.std.proofs.Common.{length, refl}
use Rattle.apfloat_arrays.proofs.TabledResults.{looked_up}
use Rattle.apfloat_arrays.proofs.byte_tables.TabledValueConversion.convert.Goals as goal

pub returns : goal.returns
returns g c =
    looked_up (g.R.Results.gives c.args.self.now.results.now) (length c.args.output.now) 256 c.byte_of.result _
    (length c.args.output.now) c.args.self.now.values.now c.look_up.new.target c.args.self.now.outcomes.now
    c.look_up.result
    c.requires.1 c.look_up.ensures.outcome c.look_up.ensures.bytes refl c.byte_of.ensures.is
