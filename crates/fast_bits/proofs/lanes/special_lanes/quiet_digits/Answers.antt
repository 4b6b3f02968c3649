use Rattle.std.proofs.Common.{ℕ, ◌/◌, ◌∙◌, ap, sym, ◌+◌, ◌-◌, ◌%◌, ◌^◌, ◌≤◌, arith}
use Rattle.std.proofs.{Math.Nat.div-lt_iff_lt-mul, Math.Nat.pow-le-pow_right, lemmas.Nat.pow_pos}
use Rattle.apfloat_model.proofs.general.Powers.{two_pos}
use Rattle.fast_bits.proofs.lanes_lemmas.Specials.{payload_digits, quieted_is}
use Rattle.fast_bits.proofs.lanes.special_lanes.quiet_digits.Goals as goal

pub returns-clause-is : goal.returns-clause-is
returns-clause-is c = λ single layout trailing is_single below it.
    let t = c.args.target in
    payload_digits t.precision trailing c.args.payload t.lawful.precise t.lawful.digits it
    ∙ ap (λ (n : ℕ). n / 2 ^ (24 - t.precision)) (sym (quieted_is single layout trailing is_single below))

pub returns-clause-below : goal.returns-clause-below
returns-clause-below c =
    let places = 17 - c.args.target.precision in
    let some : 1 ≤ 17 - c.args.target.precision = omega (arith, c.args.target.lawful.digits) in
    let least : 2 ^ 1 ≤ 2 ^ (17 - c.args.target.precision) = pow-le-pow_right two_pos some in
    (div-lt_iff_lt-mul {x = c.args.payload % 32768 + 32768} {y = 32768} (pow_pos places)).1 (omega (arith, least))
