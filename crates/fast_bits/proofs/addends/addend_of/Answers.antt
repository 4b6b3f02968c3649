use Rattle.std.proofs.{Math.Nat.pow-le-pow_right, lemmas.Nat.pow_pos}
use Rattle.std.proofs.Common.{◌≡◌, ℕ, ◌-◌, ◌*◌, ◌%◌, ◌^◌, ◌<◌, ◌≤◌, Bool, cond, not, refl, ap, ◌∙◌, arith}
use Rattle.apfloat_model.specs.declared.kinds.Round.{Round}
use Rattle.apfloat_model.proofs.general.Powers.{twice_half, two_pos}
use Rattle.fast_bits.specs.{Words.IsLongAddend, declared.addends.LongAddend.LongAddend}
use Rattle.fast_bits.proofs.lanes_lemmas.Moves.{added_below, added_for, addend_rounds, odd_for, odd_most}
use Rattle.fast_bits.proofs.addends.addend_of.Goals as goal

half_below : (low : ℕ) → low ≤ 56 → 2 ^ (low - 1) ≤ 2 ^ 55
half_below low most = let places : low - 1 ≤ 55 = omega (arith, most) in pow-le-pow_right two_pos places

half_is : (low : ℕ) → low ≤ 56 → 1 * 2 ^ (low - 1) % 18446744073709551616 ≡ 2 ^ (low - 1)
half_is low most = let below = half_below low most in omega (arith, below)

half_most : (low : ℕ) → low ≤ 56 → 1 * 2 ^ (low - 1) % 18446744073709551616 ≤ 36028797018963968
half_most low most = let below = half_below low most in omega (arith, below)

half_some : (low : ℕ) → low ≤ 56 → 1 ≤ 1 * 2 ^ (low - 1) % 18446744073709551616
half_some low most =
    let is = half_is low most in let some : 1 ≤ 2 ^ (low - 1) = pow_pos (low - 1) in omega (arith, is, some)

long_addend : (low : ℕ) (mode : Round) (negative : Bool) (addend : LongAddend) → 1 ≤ low
    → addend.always ≡ added_for mode negative (2 ^ (low - 1)) → addend.if_odd ≡ 2 ^ odd_for mode - 1
    → IsLongAddend low mode negative addend
long_addend low mode negative addend some always if_odd =
    let twice : 2 * 2 ^ (low - 1) ≡ 2 ^ low = twice_half low some in
    let one = odd_most mode in
    record {
      rounds = record {
        rounds = λ t. addend_rounds low mode negative addend.always addend.if_odd some always if_odd t;
      };
      below = omega (arith, added_below mode negative (2 ^ (low - 1)) (pow_pos (low - 1)), twice, always, if_odd);
      one = omega (arith, one, if_odd);
    }

pub directed-requires : goal.directed-requires
directed-requires c = record {
  some = half_some c.args.low c.requires.most;
  most = half_most c.args.low c.requires.most;
}

pub directed-requires-in-TowardPositive : goal.directed-requires-in-TowardPositive
directed-requires-in-TowardPositive c = record {
  some = half_some c.args.low c.requires.most;
  most = half_most c.args.low c.requires.most;
}

pub directed-requires-in-TowardNegative : goal.directed-requires-in-TowardNegative
directed-requires-in-TowardNegative c = record {
  some = half_some c.args.low c.requires.most;
  most = half_most c.args.low c.requires.most;
}

pub returns-in-NearestTiesToEven : goal.returns-in-NearestTiesToEven
returns-in-NearestTiesToEven c =
    rw c.in-NearestTiesToEven.is
    (long_addend c.args.low _ c.args.negative _ c.requires.some
    (ap (λ (n : ℕ). n - 1) (half_is c.args.low c.requires.most)) refl)

pub returns-in-NearestTiesToAway : goal.returns-in-NearestTiesToAway
returns-in-NearestTiesToAway c =
    rw c.in-NearestTiesToAway.is
    (long_addend c.args.low _ c.args.negative _ c.requires.some (half_is c.args.low c.requires.most) refl)

pub returns-in-TowardZero : goal.returns-in-TowardZero
returns-in-TowardZero c =
    rw c.in-TowardZero.is
    (long_addend c.args.low _ c.args.negative c.directed.result c.requires.some c.directed.ensures.always
    c.directed.ensures.if_odd)

pub returns-in-TowardPositive : goal.returns-in-TowardPositive
returns-in-TowardPositive c =
    let made = c.directed-in-TowardPositive in
    rw c.in-TowardPositive.is
    (long_addend c.args.low _ c.args.negative made.result c.requires.some
    (made.ensures.always
    ∙ ap (λ (n : ℕ). cond (not c.args.negative) (2 * n - 1) 0) (half_is c.args.low c.requires.most))
    made.ensures.if_odd)

pub returns-in-TowardNegative : goal.returns-in-TowardNegative
returns-in-TowardNegative c =
    let made = c.directed-in-TowardNegative in
    rw c.in-TowardNegative.is
    (long_addend c.args.low _ c.args.negative made.result c.requires.some
    (made.ensures.always ∙ ap (λ (n : ℕ). cond c.args.negative (2 * n - 1) 0) (half_is c.args.low c.requires.most))
    made.ensures.if_odd)
