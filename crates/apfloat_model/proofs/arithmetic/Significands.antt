-- A number as its significand times two to the power of the exponent of its last digit.
use Rattle.std.proofs.Common.{◌≡◌, ℕ, ◌+◌, ◌-◌, ◌*◌, ◌%◌, ◌^◌, ◌<◌, ◌≤◌, sym, ap, ◌∙◌, arith, ℤ, pos, negsuc, ◌+ℤ◌}
use Rattle.std.proofs.{Common.FitsSigned, Common.w32, Math.Nat.le_of_mul-le-mul_right, Math.Nat.lt_of_mul-lt-mul_right}
use Rattle.std.proofs.Math.Nat.{mod-eq_of_lt, mul-le-mul_right, mul-lt-mul_of_pos_right, pow-le-pow_right}
use Rattle.std.proofs.lemmas.{Int.ints, Nat.pow-add, Nat.pow_pos}
use Rattle.apfloat_model.specs.{formats.Format.Format, rounding.Bounds.IsWithin}
use Rattle.apfloat_model.specs.arithmetic.{Exact.up, Exact.down, Exponents.IsLogarithm}
use Rattle.apfloat_model.proofs.arithmetic.SingleScalings.{scaled_stands}
use Rattle.apfloat_model.proofs.general.Powers.{exponent_below, two_pos}
use Rattle.apfloat_model.proofs.rounding.KeptDigits.{fits_shifted, full_shifted}

-- an exponent is the same as a word
pub exponent_fits : (e : ℤ) → IsWithin (2 ^ 23) e → FitsSigned w32 e
exponent_fits (pos n) w = let high = w.high in record { sfits = omega (arith, ints, high) }
exponent_fits (negsuc n) w = let low = w.low in record { sfits = omega (arith, ints, low) }

-- the exponent of the first digit of a significand that has all of them
pub significand_logarithm : (f : Format) (q s p : ℕ) (exponent first : ℤ) → 0 < p → 0 < q → s < 2 ^ p → 2 ^ (p - 1) ≤ s
    → q * 2 ^ down (exponent +ℤ pos f.scale) ≡ s * 2 ^ up (exponent +ℤ pos f.scale) → first ≡ exponent +ℤ pos (p - 1)
    → IsLogarithm f q first
significand_logarithm f q s p exponent first digits some fits full number is =
    let z : ℤ = exponent +ℤ pos f.scale in
    let u = up z in
    let d = down z in
    let least : 1 * 2 ^ d ≤ q * 2 ^ d = mul-le-mul_right (2 ^ d) some in
    let most : s * 2 ^ u < 2 ^ p * 2 ^ u = mul-lt-mul_of_pos_right fits (pow_pos u) in
    let room : d < p + u = exponent_below d (p + u) (between (2 ^ d) _ _ _ _ least number most (pow-add 2 p u)) in
    let place = p - 1 + u - d in
    let at : place + d ≡ p - 1 + u = omega (arith, room, digits) in
    let next : place + 1 + d ≡ p + u = omega (arith, room, digits) in
    let below : 2 ^ place * 2 ^ d ≡ 2 ^ (p - 1) * 2 ^ u =
    sym (pow-add 2 place d) ∙ ap (λ (n : ℕ). 2 ^ n) at ∙ pow-add 2 (p - 1) u in
    let above : 2 ^ (place + 1) * 2 ^ d ≡ 2 ^ p * 2 ^ u =
    sym (pow-add 2 (place + 1) d) ∙ ap (λ (n : ℕ). 2 ^ n) next ∙ pow-add 2 p u in
    record {
      place = place;
      low = le_of_mul-le-mul_right (low_side _ _ _ _ below (mul-le-mul_right (2 ^ u) full) number) (pow_pos d);
      high = lt_of_mul-lt-mul_right (2 ^ d) (high_side _ _ _ _ above most number);
      is = omega (arith, ints, is, at, digits);
    }
  where
    between : (d q s top power : ℕ) → 1 * d ≤ q → q ≡ s → s < top → power ≡ top → d < power
    between d q s top power l e m t = omega (arith, l, e, m, t)

    low_side : (a b c q : ℕ) → a ≡ b → b ≤ c → q ≡ c → a ≤ q
    low_side a b c q e l n = omega (arith, e, l, n)

    high_side : (a b c q : ℕ) → a ≡ b → c < b → q ≡ c → q < a
    high_side a b c q e l n = omega (arith, e, l, n)

-- the number as an integer times a power of two
pub significand_value : (f : Format) (q s : ℕ) (exponent : ℤ)
    → q * 2 ^ down (exponent +ℤ pos f.scale) ≡ s * 2 ^ up (exponent +ℤ pos f.scale)
    → q * 2 ^ down exponent ≡ s * 2 ^ up exponent * 2 ^ f.scale
significand_value f q s exponent number =
    let z : ℤ = exponent +ℤ pos f.scale in
    plain q s (2 ^ down exponent) (2 ^ up exponent) (2 ^ f.scale)
    (scaled_stands s q (down z) (up z) 0 f.scale (up exponent) (down exponent) number (omega (arith, ints)))
  where
    plain : (q s d u scale : ℕ) → q * 2 ^ 0 * d ≡ s * (scale * u) → q * d ≡ s * u * scale
    plain q s d u scale e = omega (arith, e)

-- ---- with zeros behind it, so that it has `n` digits

pub lengthened_fits : (p s n : ℕ) → p ≤ n → s < 2 ^ p → s * 2 ^ (n - p) < 2 ^ n
lengthened_fits p s n l h = fits_shifted s p (n - p) n h (omega (arith, l))

pub lengthened_full : (p s n : ℕ) → 0 < p → p ≤ n → 2 ^ (p - 1) ≤ s → 2 ^ (n - 1) ≤ s * 2 ^ (n - p)
lengthened_full p s n some l h = full_shifted s p (n - p) n some (λ _. h) (omega (arith, l))

-- no digit leaves the word
pub lengthened_whole : (p s n : ℕ) → n ≤ 128 → p ≤ n → s < 2 ^ p → s * 2 ^ (n - p) % 2 ^ 128 ≡ s * 2 ^ (n - p)
lengthened_whole p s n k l h = mod-eq_of_lt (omega (arith, lengthened_fits p s n l h, pow-le-pow_right two_pos k))

-- the same number
pub significand_lengthened : (q s zeros : ℕ) (z last : ℤ) → q * 2 ^ down z ≡ s * 2 ^ up z → z ≡ last +ℤ pos zeros
    → q * 2 ^ down last ≡ s * 2 ^ zeros * 2 ^ up last
significand_lengthened q s zeros z last number is =
    plain q s (2 ^ down last) (2 ^ up last) (2 ^ zeros)
    (scaled_stands s q (down z) (up z) 0 zeros (up last) (down last) number (omega (arith, ints, is)))
  where
    plain : (q s d u more : ℕ) → q * 2 ^ 0 * d ≡ s * (more * u) → q * d ≡ s * more * u
    plain q s d u more e = omega (arith, e)

-- the number in quanta of another format
pub significand_in_quanta : (q s from into : ℕ) (exponent z unit : ℤ) → q * 2 ^ down z ≡ s * 2 ^ up z
    → z ≡ exponent +ℤ pos from → unit ≡ exponent +ℤ pos into
    → q * 2 ^ into * 2 ^ down unit ≡ s * (2 ^ from * 2 ^ up unit)
significand_in_quanta q s from into exponent z unit number is at =
    scaled_stands s q (down z) (up z) into from (up unit) (down unit) number (omega (arith, ints, is, at))
