use Rattle.std.proofs.Common.{arith}
use Rattle.p3109_formats.specs.Types.{projection_of}
use Rattle.p3109_formats.proofs.{Codes.apart, Values.largest_some}
use Rattle.p3109_formats.proofs.projected.Projected.next_down.Goals as goal

pub of_index-requires-clause-index : goal.of_index-requires-clause-index
of_index-requires-clause-index g c =
    let d = projection_of g.F.Projection in
    omega (arith, largest_some d g.F.Projection.lawful, (apart d g.F.Projection.lawful).most_to)
