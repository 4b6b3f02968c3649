-- The ranges of a lawful format's digits and exponents.
use Rattle.std.proofs.Common.{◌≡◌, ◌-◌, ◌^◌, ◌<◌, ◌≤◌, arith, pos, ◌-ℤ◌}
use Rattle.std.proofs.lemmas.Int.{ints}
use Rattle.std.specs.Prelude.{unsigned_abs}
use Rattle.apfloat_model.specs.formats.{Format.Format, Lawful.Constants, Lawful.IsLawful, Lawful.format_with}

pub record HasRanges (f : Format) : Type 0 where
  pub precision_low : 3 ≤ f.precision
  pub precision_high : f.precision ≤ 125
  pub scale_some : 0 < f.scale
  pub scale : f.scale < f.span
  pub span : f.span ≤ 2 ^ 21

pub ranges_of : (constants : Constants) → IsLawful constants → HasRanges (format_with constants)
ranges_of constants law =
    let p = law.parameters in
    let scale : pos (constants.precision - 1) -ℤ constants.min_exp
    ≡ pos (unsigned_abs (pos (constants.precision - 1) -ℤ constants.min_exp)) =
    omega (arith, ints, p.precision_low, p.min_exp_high) in
    let span : constants.max_exp -ℤ constants.min_exp ≡ pos (unsigned_abs (constants.max_exp -ℤ constants.min_exp)) =
    omega (arith, ints, p.precision_low, p.max_exp_low, p.min_exp_high) in
    record {
      precision_low = p.precision_low;
      precision_high = p.precision_high;
      scale_some = omega (arith, ints, scale, p.precision_low, p.min_exp_high);
      scale = omega (arith, ints, scale, span, p.precision_low, p.max_exp_low, p.min_exp_high);
      span = omega (arith, ints, span, p.min_exp_low, p.max_exp_high);
    }
