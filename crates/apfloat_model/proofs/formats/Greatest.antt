-- Bounds of the greatest significand.
use Rattle.std.proofs.Common.{◌≡◌, ℕ, ◌-◌, ◌*◌, ◌^◌, ◌<◌, ◌≤◌, arith}
use Rattle.std.proofs.{Math.Nat.pow-le-pow_right, lemmas.Nat.pow_pos}
use Rattle.apfloat_model.specs.declared.kinds.NonfiniteBehavior.{NonfiniteBehavior}
use Rattle.apfloat_model.specs.declared.kinds.NonfiniteBehavior.TheVariants.{IEEE754, NanOnly, NanNegativeZero}
use Rattle.apfloat_model.specs.formats.Format.{greatest_significand}
use Rattle.apfloat_model.proofs.general.Powers.{two_pos, twice_half}

-- the greatest significand has no more digits than the precision
pub greatest_fits : (kind : NonfiniteBehavior) (precision : ℕ) → greatest_significand kind precision < 2 ^ precision
greatest_fits IEEE754 precision = let p : 0 < 2 ^ precision = pow_pos precision in omega arith
greatest_fits NanOnly precision = let p : 0 < 2 ^ precision = pow_pos precision in omega arith
greatest_fits NanNegativeZero precision = let p : 0 < 2 ^ precision = pow_pos precision in omega arith

-- the greatest significand is all ones, or all ones except the last
pub greatest_low : (kind : NonfiniteBehavior) (precision : ℕ) → 2 ^ precision - 2 ≤ greatest_significand kind precision
greatest_low IEEE754 precision = omega arith
greatest_low NanOnly precision = omega arith
greatest_low NanNegativeZero precision = omega arith

-- the greatest significand is at least half of the power of two past it
pub greatest_half : (kind : NonfiniteBehavior) (precision : ℕ) → 3 ≤ precision
    → 2 ^ precision ≤ 2 * greatest_significand kind precision
greatest_half kind precision h = omega (arith, pow-le-pow_right two_pos h, greatest_low kind precision)

-- the greatest significand has all the digits of the precision
pub greatest_full : (kind : NonfiniteBehavior) (precision : ℕ) → 3 ≤ precision
    → 2 ^ (precision - 1) ≤ greatest_significand kind precision
greatest_full kind precision h =
    let t : 2 * 2 ^ (precision - 1) ≡ 2 ^ precision = twice_half precision (omega (arith, h)) in
    omega (arith, t, greatest_half kind precision h)

-- the greatest significand is not 0
pub greatest_some : (kind : NonfiniteBehavior) (precision : ℕ) → 3 ≤ precision → 0 < greatest_significand kind precision
greatest_some kind precision h = omega (arith, pow_pos (precision - 1), greatest_full kind precision h)
