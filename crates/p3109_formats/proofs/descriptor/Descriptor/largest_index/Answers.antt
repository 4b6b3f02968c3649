use Rattle.std.proofs.Common.{arith}
use Rattle.p3109_formats.proofs.Codes.{four_codes}
use Rattle.p3109_formats.proofs.descriptor.Descriptor.largest_index.Goals as goal
use Rattle.p3109_formats.proofs.descriptor.Descriptor.largest_index.Goals.{then-self, else-self}

pub overflow_sub-last-else-self : goal.overflow_sub-last-else-self
overflow_sub-last-else-self c = omega (arith, c.unsigned_codes-codes.ensures, four_codes c.args.self c.requires)

pub overflow_sub-last : goal.overflow_sub-last
overflow_sub-last c = omega (arith, c.unsigned_codes-codes.ensures, four_codes c.args.self c.requires)

pub overflow_sub-result : goal.overflow_sub-result
overflow_sub-result c =
    let four = four_codes c.args.self c.requires in
    elim c.if-self.branch [
      | then-self w ↦ omega (arith, w.last-is, c.unsigned_codes-codes.ensures, four)
      | else-self w ↦ omega (arith, w.last-is, c.unsigned_codes-codes.ensures, four)
    ]
