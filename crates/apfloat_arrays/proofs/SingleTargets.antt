-- Formats that finite singles are converted to in blocks.
use Rattle.std.proofs.Common.{◌≡◌, ◌-◌, ◌<◌, ◌≤◌, pos, negsuc, ◌≤ℤ◌, false, arith}
use Rattle.std.proofs.lemmas.{Bool.cond-false, Int.ints}
use Rattle.fast_bits.specs.lanes.Targets.{IsTarget}
use Rattle.rustc_apfloat.specs.Lawful.{Constants, IsLawful, format_with, layout_with}
use Rattle.rustc_apfloat.specs.Standing.{reads_halves}
use Rattle.apfloat_model.proofs.bits.Encodings.{lawful_interchange}

pub target_is : (d : Constants) → IsLawful d → d.precision < d.bits → d.bits ≤ 16 → d.precision ≤ 11
    → d.explicit_integer_bit ≡ false → negsuc 125 ≤ℤ d.min_exp → d.max_exp ≤ℤ pos 127
    → reads_halves (format_with d) ≡ false → IsTarget (format_with d) (layout_with d) d.min_exp d.max_exp
target_is d lawful wide few digits implied least greatest rule =
    let law = lawful_interchange d lawful wide in
    let are = lawful.parameters in
    let bits = law.bits in
    let precise = law.precise in
    record {
      implied = implied;
      precise = precise;
      exponents = law.some;
      widths = omega (arith, bits, cond-false d.explicit_integer_bit d.precision (d.precision - 1) implied, precise);
      span = law.span;
      bits = few;
      digits = digits;
      least = least;
      below = omega (arith, ints, are.min_exp_high);
      order = omega (arith, ints, are.min_exp_high, are.max_exp_low);
      greatest = greatest;
      rule = rule;
    }
