use Rattle.std.proofs.Common.{◌≡◌, pos, neg_ℤ, ◌-ℤ◌, to_z, of_z, w32, sym, arith}
use Rattle.std.proofs.lemmas.Int.{ints}
use Rattle.apfloat_ieee.specs.FlaggedTypes.{format_of}
use Rattle.apfloat_machines.specs.Wrapping.{bias_adjustment}
use Rattle.apfloat_machines.proofs.wrapping.wrapped.Goals as goal

pub returns-then-test_flags : goal.returns-then-test_flags
returns-then-test_flags g c =
    let up = c.bias_adjustment.ensures in
    let down : to_z w32 (of_z w32 (pos 0 -ℤ to_z w32 (of_z w32 c.bias_adjustment.result)))
    ≡ neg_ℤ (pos (bias_adjustment (format_of g.S.Flagged))) =
    omega (arith, ints, up, c.bias_adjustment.type_inv) in
    rw (sym c.test_flags.ensures, c.if-test_flags.true, sym down) c.moved.ensures
