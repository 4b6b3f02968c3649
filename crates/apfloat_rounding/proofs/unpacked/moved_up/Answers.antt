use Rattle.std.proofs.{Common.arith, Math.Nat.mod-eq_of_lt, Math.Nat.pow-le-pow_right}
use Rattle.apfloat_model.proofs.general.Powers.{two_pos}
use Rattle.apfloat_rounding.proofs.unpacked.moved_up.Goals as goal

pub returns-else-shape-le64 : goal.returns-else-shape-le64
returns-else-shape-le64 c =
    mod-eq_of_lt (omega (arith, pow-le-pow_right two_pos c.args.shape.parameters.precision_high, c.requires.fits))
