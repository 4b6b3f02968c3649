use Rattle.std.proofs.{Common.arith, lemmas.Int.to_z-of_z}
use Rattle.std.specs.Int.{w128}
use Rattle.round_to_odd.proofs.Wholes.{negative_is}
use Rattle.round_to_odd.proofs.whole_numbers.from_i128_odd.Goals as goal

pub returns : goal.returns
returns g c =
    let same = to_z-of_z w128 c.args.input c.ranges.input in
    let made = rw (same, negative_is c.args.input) at c.to_odd.ensures.odd in
    let truncated = rw same at c.from_i128_r.ensures in
    made _ 1 (omega arith) truncated
