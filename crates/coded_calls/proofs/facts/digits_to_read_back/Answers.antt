use Rattle.std.proofs.Common.{◌≡◌, ◌<◌, ◌∙◌, ◌+◌, ◌-◌, ◌*◌, ◌^◌, ◌%◌, arith}
use Rattle.std.proofs.Math.{Nat.mod-eq_of_lt, Pow.pow-lt}
use native.Mathlib.Numerals.{unary_clauses}
use Rattle.coded_calls.proofs.facts.digits_to_read_back.Goals as goal

pub returns : goal.returns
returns c =
    let precision = c.requires in
    let within : c.args.precision < 128 = omega (arith, precision) in
    let room = pow-lt within in
    let power : 1 * 2 ^ c.args.precision % 340282366920938463463374607431768211456 ≡ 2 ^ c.args.precision =
    mod-eq_of_lt (omega arith) ∙ omega arith in
    let above : c.ilog10.result + 2 - 1 ≡ c.ilog10.result + 1 = omega arith in
    let below : c.ilog10.result + 2 - 2 ≡ c.ilog10.result = omega arith in
    let next = rw power at c.ilog10.ensures.next_power_gt in
    record {
      some = omega arith;
      enough = rw above (simp unary_clauses (omega (arith, next)));
      least = rw below (rw power at c.ilog10.ensures.power_le);
    }
