use Rattle.std.proofs.Common.{◌^◌, ◌≤◌, arith}
use Rattle.std.proofs.Math.Nat.{pow-le-pow_right}
use Rattle.apfloat_model.proofs.general.Powers.{two_pos}
use Rattle.fast_bits.specs.lanes.At.{format_at, layout_at}
use Rattle.fast_bits.proofs.lanes_lemmas.Interchanges.{largest_nan_only, largest_of_all_ones, next_code}
use Rattle.fast_bits.proofs.lanes.targets.largest_code.Goals as goal

pub returns-in-IEEE754 : goal.returns-in-IEEE754
returns-in-IEEE754 c =
    let t = c.args.target in
    let next = next_code (format_at t) (layout_at t) t.min_exp t.max_exp c.places.result t.lawful c.places.ensures.is in
    record { is = largest_of_all_ones (format_at t) _ c.in-IEEE754.is next.0; below = omega (arith, next.1) }

pub overflow_sub-result-in-NanOnly : goal.overflow_sub-result-in-NanOnly
overflow_sub-result-in-NanOnly c =
    let t = c.args.target in
    let next = next_code (format_at t) (layout_at t) t.min_exp t.max_exp c.places.result t.lawful c.places.ensures.is in
    let low : 1 ≤ t.precision = omega (arith, t.lawful.precise) in
    let some : 2 ^ 1 ≤ 2 ^ t.precision = pow-le-pow_right two_pos low in
    omega (arith, next.0, some)

pub returns-in-NanOnly : goal.returns-in-NanOnly
returns-in-NanOnly c =
    let t = c.args.target in
    let next = next_code (format_at t) (layout_at t) t.min_exp t.max_exp c.places.result t.lawful c.places.ensures.is in
    record {
      is = largest_nan_only (format_at t) _ c.in-NanOnly.is t.lawful.precise next.0;
      below = omega (arith, next.1);
    }
