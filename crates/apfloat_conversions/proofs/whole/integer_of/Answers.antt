use Rattle.std.proofs.Common.{ℕ, ◌*◌, ◌<◌, ◌^◌, sym, subst}
use Rattle.apfloat_conversions.proofs.Wholes.{shifted_within}
use Rattle.apfloat_conversions.proofs.whole.integer_of.Goals as goal

pub overflow_mul-result : goal.overflow_mul-result
overflow_mul-result c = record {
  fits = subst (λ (x : ℕ). c.args.significand * x < 2 ^ 128) (sym c.power_of_two.ensures)
      (shifted_within c.args.precision c.args.significand c.args.places c.requires.fits c.requires.near);
}
