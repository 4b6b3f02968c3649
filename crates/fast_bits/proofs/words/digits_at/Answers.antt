use Rattle.std.proofs.Common.{◌≡◌, ℕ, ◌-◌, ◌*◌, ◌%◌, ◌^◌, ◌<◌, ◌≤◌, min, ap, ◌∙◌, arith}
use Rattle.std.proofs.Math.Nat.{mod-eq_of_lt, mul-lt-mul_of_pos_right, pow-le-pow_right}
use Rattle.std.proofs.lemmas.Nat.{pow_pos}
use Rattle.apfloat_model.proofs.general.Powers.{two_pos}
use Rattle.fast_bits.proofs.words.digits_at.Goals as goal

-- a significand moved up by at most 32 places
moved_below : (m places : ℕ) → m < 2 ^ 24 → places ≤ 32 → m * 2 ^ places < 2 ^ 56
moved_below m places fits few =
    let unit : 2 ^ places ≤ 2 ^ 32 = pow-le-pow_right two_pos few in
    let less : m * 2 ^ places < 2 ^ 24 * 2 ^ places = mul-lt-mul_of_pos_right fits (pow_pos places) in
    omega (arith, unit, less)

moved_whole : (m places : ℕ) → m < 2 ^ 24 → places ≤ 32 → m * 2 ^ places % 18446744073709551616 ≡ m * 2 ^ places
moved_whole m places fits few = mod-eq_of_lt (omega (arith, moved_below m places fits few))

pub returns-clause-is : goal.returns-clause-is
returns-clause-is c =
    rw c.from.ensures
    (moved_whole c.args.significand (32 - c.min.result) c.requires (omega arith)
    ∙ ap (λ (n : ℕ). c.args.significand * 2 ^ (32 - n))
    (c.min.ensures ∙ ap (λ (n : ℕ). min n 32) c.saturating_sub.ensures))

pub returns-clause-below : goal.returns-clause-below
returns-clause-below c =
    let whole = moved_whole c.args.significand (32 - c.min.result) c.requires (omega arith) in
    let below = moved_below c.args.significand (32 - c.min.result) c.requires (omega arith) in
    rw c.from.ensures (omega (arith, whole, below))
