-- The exponent of the fraction of a number is within the range of the format.
use Rattle.std.proofs.Common.{◌≡◌, ℕ, ◌+◌, ◌-◌, ◌*◌, ◌^◌, ◌<◌, ◌≤◌, Bool, ap}
use Rattle.std.proofs.{Common.⊎_elim, Common.arith, Math.Nat.mul-le-mul_right, lemmas.Nat.pow_pos, lemmas.Int.ints}
use Rattle.std.specs.Prelude.{ℤ, pos, neg_ℤ, ◌≤ℤ◌}
use Rattle.apfloat_model.specs.formats.{Format.Format, Format.largest, Datum.Datum}
use Rattle.apfloat_model.specs.arithmetic.{Exact.up, Exact.down, Exponents.IsFraction}
use Rattle.apfloat_model.proofs.{rounding.FarMagnitudes.largest_below, general.Powers.exponent_below}
use Rattle.apfloat_model.proofs.arithmetic.Signs.{one_side}

-- if 2 ^ a is at most n and n is below 2 ^ b, a is at most b
power_below : (a n b : ℕ) → 2 ^ a ≤ n → n < 2 ^ b → a ≤ b
power_below a n b l h = let e = exponent_below a b (omega arith) in omega arith

-- if n * 2 ^ d is a fraction below 2 ^ scale, d is at most the scale
few_places : (n fraction scale d u : ℕ) → 0 < n → fraction < 2 ^ scale → u ≡ 0 → n * 2 ^ d ≡ fraction * 2 ^ u
    → d ≤ scale
few_places n fraction scale d u p h z e =
    let l : 1 * 2 ^ d ≤ n * 2 ^ d = mul-le-mul_right (2 ^ d) p in
    let k : fraction * 2 ^ u ≡ fraction * 2 ^ 0 = ap (λ (i : ℕ). fraction * 2 ^ i) z in
    power_below d fraction scale (omega arith) h

-- if n, below 2 ^ top, is a fraction times 2 ^ u, u is at most top
few_steps : (n fraction scale top d u : ℕ) → n < 2 ^ top → 2 ^ (scale - 1) ≤ fraction → d ≡ 0
    → n * 2 ^ d ≡ fraction * 2 ^ u → u ≤ top
few_steps n fraction scale top d u h l z e =
    let p : 0 < 2 ^ (scale - 1) = pow_pos (scale - 1) in
    let m : 1 * 2 ^ u ≤ fraction * 2 ^ u = mul-le-mul_right (2 ^ u) (omega (arith, p, l)) in
    let k : n * 2 ^ d ≡ n * 2 ^ 0 = ap (λ (i : ℕ). n * 2 ^ i) z in
    power_below u n top (omega arith) h

-- the exponent is at least that of the quantum, -scale, and at most that of the power of two past all numbers
pub record IsExponentWithin (format : Format) (exponent : ℤ) : Type 0 where
  pub low : neg_ℤ (pos format.scale) ≤ℤ exponent
  pub high : exponent ≤ℤ pos (format.precision + format.span)

-- the exponent of the fraction of a number of the format is within that range
pub exponent_within : (format : Format) (negative : Bool) (n : ℕ) (value : Datum) (exponent : ℤ) → 0 < n
    → n ≤ largest format → IsFraction format negative n value exponent → IsExponentWithin format exponent
exponent_within format negative n value exponent p h x =
    ⊎_elim
    (λ (z : up exponent ≡ 0).
    let l : down exponent ≤ format.scale =
    few_places n x.fraction format.scale (down exponent) (up exponent) p x.high z x.same in
    record { low = omega (arith, ints, l, z); high = omega (arith, ints, l, z) })
    (λ (z : down exponent ≡ 0).
    let l : up exponent ≤ format.precision + format.span =
    few_steps n x.fraction format.scale (format.precision + format.span) (down exponent) (up exponent)
    (omega (arith, h, largest_below format)) x.low z x.same in
    record { low = omega (arith, ints, l, z); high = omega (arith, ints, l, z) })
    (one_side exponent)
