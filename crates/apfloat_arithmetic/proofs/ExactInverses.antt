-- Exact inverses of stored numbers.
use Rattle.std.proofs.Common.{refl, sym, ap, subst, ◌∙◌, ◌≡◌, ℕ, ◌+◌, ◌-◌, ◌*◌, ◌^◌}
use Rattle.std.proofs.Common.{◌<◌, ◌≤◌, ℤ, pos, ◌-ℤ◌, ◌≤ℤ◌, to_z, of_z, w32, Bool, arith}
use Rattle.std.proofs.Math.Nat.{mul-le-mul_left, mul-le-mul_right, mul-lt-mul_of_pos_right, pow-le-pow_right, mul-pos}
use Rattle.std.proofs.lemmas.{Nat.pow_pos, Nat.pow-add, Int.ints, Int.by_lt_z, Int.to_z-of_z}
use Rattle.std.specs.Prelude.{neg_ℤ, unsigned_abs, Some, None}
use Rattle.apfloat_model.specs.arithmetic.{Exact.up, Exact.down, Exponents.AreInverse, Exponents.IsExactInverse}
use Rattle.apfloat_model.specs.formats.{Format.largest, Format.greatest_significand, Datum.finite}
use Rattle.apfloat_model.proofs.formats.Greatest.{greatest_fits, greatest_full}
use Rattle.apfloat_model.proofs.general.Powers.{pow3, pow22, exponent_at_most, exponent_below, two_pos}
use Rattle.apfloat_rounding.specs.{declared.shape.Shape.Shape, Shapes.format_at}
use Rattle.apfloat_rounding.specs.Stored.{IsNormalAt, IsQuantaAt, quanta_at}
use Rattle.apfloat_rounding.proofs.{ShapeExponents.scale_is, StoredNumbers.whole_is, StoredNumbers.above_zero}
use Rattle.apfloat_arithmetic.specs.ExactInverseParts.{IsInvertibleAt}
use Rattle.apfloat_arithmetic.proofs.ProductExponents.{normal_near}
use Rattle.apfloat_arithmetic.proofs.PowerFactors.{factor_of_power, power_with_digits}
use Rattle.apfloat_arithmetic.proofs.NumberClasses.{quanta_low_is, quanta_high_is}
use borrow.Author.Differences.{fits_in}

-- the exponent counted from the least one
abbrev pub steps_of : Shape → ℤ → ℕ
steps_of s e = unsigned_abs (e -ℤ s.min_exp)

-- a number with an exponent not below the least one is its significand moved up
pub whole_from : (shape : Shape) (m : ℕ) (e : ℤ) → shape.min_exp ≤ℤ e
    → IsQuantaAt shape.min_exp m e (m * 2 ^ steps_of shape e)
whole_from shape m e l =
    let a = above_zero (e -ℤ shape.min_exp) (steps_of shape e) (omega (arith, ints)) in
    rw (a.0, a.1) (omega arith)

-- a power of two with an exponent of the format is at most its largest value
pub power_within : (shape : Shape) (e : ℤ) → shape.min_exp ≤ℤ e → e ≤ℤ shape.max_exp
    → 2 ^ (shape.precision - 1) * 2 ^ steps_of shape e ≤ largest (format_at shape)
power_within shape e l h =
    let j : steps_of shape e ≤ (format_at shape).span = omega (arith, ints) in
    let a : 2 ^ steps_of shape e ≤ 2 ^ (format_at shape).span = pow-le-pow_right two_pos j in
    let b : 2 ^ (shape.precision - 1) * 2 ^ steps_of shape e ≤ 2 ^ (shape.precision - 1) * 2 ^ (format_at shape).span =
    mul-le-mul_left (2 ^ (shape.precision - 1)) a in
    let c : 2 ^ (shape.precision - 1) * 2 ^ (format_at shape).span
    ≤ greatest_significand shape.nonfinite shape.precision * 2 ^ (format_at shape).span =
    mul-le-mul_right (2 ^ (format_at shape).span)
    (greatest_full shape.nonfinite shape.precision shape.parameters.precision_low) in
    omega arith

-- the inverse of a power of two is a number of the format
pub inverted_normal : (shape : Shape) (m : ℕ) (e : ℤ) → IsNormalAt shape m e → IsInvertibleAt shape m e
    → IsNormalAt shape m (neg_ℤ e)
inverted_normal shape m e n i =
    let g : m * 2 ^ steps_of shape (neg_ℤ e) ≤ largest (format_at shape) =
    subst (λ (x : ℕ). x * 2 ^ steps_of shape (neg_ℤ e) ≤ largest (format_at shape)) (sym i.power)
    (power_within shape (neg_ℤ e) i.inverse_normal i.inverse_within) in
    record {
      operand = record {
        fits = n.operand.fits;
        full = n.operand.full;
        least = omega (arith, ints, i.inverse_normal, shape.parameters.precision_low);
        greatest = i.inverse_within;
      };
      whole = whole_is shape.min_exp m (neg_ℤ e) (m * 2 ^ steps_of shape (neg_ℤ e))
          (whole_from shape m (neg_ℤ e) i.inverse_normal);
      within = rw (quanta_high_is shape m (neg_ℤ e) i.inverse_normal) g;
    }

-- a magnitude moved up is not less than before
power_full : (half j : ℕ) → half ≤ half * 2 ^ j
power_full half j =
    let o : 1 ≤ 2 ^ j = pow_pos j in
    let a : half * 1 ≤ half * 2 ^ j = mul-le-mul_left half o in
    omega arith

-- the product of two powers of two whose exponents add up to twice w is the square of 2 ^ w
powers_product : (h j k w : ℕ) → (h + j) + (h + k) ≡ w + w → 2 ^ h * 2 ^ j * (2 ^ h * 2 ^ k) ≡ 2 ^ w * 2 ^ w
powers_product h j k w e = sym (pow22 h j h k) ∙ ap (λ (x : ℕ). 2 ^ x) e ∙ pow-add 2 w w

-- an invertible number and the number with the opposite exponent are inverses
pub inverted_product : (shape : Shape) (m : ℕ) (e : ℤ) → IsNormalAt shape m e → IsInvertibleAt shape m e
    → AreInverse (format_at shape) (quanta_at shape.min_exp m e) (quanta_at shape.min_exp m (neg_ℤ e))
inverted_product shape m e n i =
    let half = 2 ^ (shape.precision - 1) in
    let j = steps_of shape e in
    let k = steps_of shape (neg_ℤ e) in
    let a : quanta_at shape.min_exp m e ≡ half * 2 ^ j = quanta_high_is shape m e i.normal ∙
    ap (λ (x : ℕ). x * 2 ^ j) i.power in
    let b : quanta_at shape.min_exp m (neg_ℤ e) ≡ half * 2 ^ k = quanta_high_is shape m (neg_ℤ e) i.inverse_normal ∙
    ap (λ (x : ℕ). x * 2 ^ k) i.power in
    let c = scale_is shape in
    let d : ((shape.precision - 1) + j) + ((shape.precision - 1) + k)
    ≡ (format_at shape).scale + (format_at shape).scale = omega (arith, ints, i.normal, i.inverse_normal) in
    record {
      normal = rw a (power_full half j);
      inverse_normal = rw b (power_full half k);
      within = (inverted_normal shape m e n i).within;
      product = rw (a, b) (powers_product (shape.precision - 1) j k (format_at shape).scale d);
    }

-- ---- a number with an exact inverse is such a power of two

-- the significand of a number with an inverse divides a power of two
power_factor : (q i m d u w : ℕ) → q * 2 ^ d ≡ m * 2 ^ u → q * i ≡ 2 ^ w * 2 ^ w → m * (2 ^ u * i) ≡ 2 ^ (w + w + d)
power_factor q i m d u w h e =
    let a : m * 2 ^ u * i ≡ q * 2 ^ d * i = ap (λ (x : ℕ). x * i) (sym h) in
    let b : q * i * 2 ^ d ≡ 2 ^ w * 2 ^ w * 2 ^ d = ap (λ (x : ℕ). x * 2 ^ d) e in
    let c : 2 ^ (w + w + d) ≡ 2 ^ w * 2 ^ w * 2 ^ d = pow3 w w d in
    omega arith

-- the significand of a number with an inverse is the least one with all digits
is_power : (shape : Shape) (m i : ℕ) (e : ℤ) → IsNormalAt shape m e
    → AreInverse (format_at shape) (quanta_at shape.min_exp m e) i → m ≡ 2 ^ (shape.precision - 1)
is_power shape m i e n h =
    let l = shape.parameters.precision_low in
    let d = down (e -ℤ shape.min_exp) in
    let u = up (e -ℤ shape.min_exp) in
    let w = (format_at shape).scale in
    power_with_digits shape.precision m (omega arith) n.operand.full n.operand.fits
    (factor_of_power (w + w + d) m (2 ^ u * i) (power_factor (quanta_at shape.min_exp m e) i m d u w n.whole h.product))

-- an inverse with all its digits bounds the exponent of the number from above
short_inverse : (h j w i : ℕ) → 2 ^ h ≤ i → 2 ^ h * 2 ^ j * i ≡ 2 ^ w * 2 ^ w → h + j + h ≤ w + w
short_inverse h j w i l e =
    let a : 2 ^ h * 2 ^ j * 2 ^ h ≤ 2 ^ h * 2 ^ j * i = mul-le-mul_left (2 ^ h * 2 ^ j) l in
    let b : 2 ^ (h + j + h) ≡ 2 ^ h * 2 ^ j * 2 ^ h = pow3 h j h in
    let c : 2 ^ (w + w) ≡ 2 ^ w * 2 ^ w = pow-add 2 w w in
    let k : 2 ^ (h + j + h) ≤ 2 ^ (w + w) = omega arith in
    exponent_at_most (h + j + h) (w + w) k

-- an inverse within the range of the format bounds the exponent of the number from below
long_inverse : (h j w i p span : ℕ) → i < 2 ^ p * 2 ^ span → 2 ^ h * 2 ^ j * i ≡ 2 ^ w * 2 ^ w
    → w + w < h + j + (p + span)
long_inverse h j w i p span l e =
    let o : 0 < 2 ^ h * 2 ^ j = mul-pos (pow_pos h) (pow_pos j) in
    let a : i * (2 ^ h * 2 ^ j) < 2 ^ p * 2 ^ span * (2 ^ h * 2 ^ j) = mul-lt-mul_of_pos_right l o in
    let b : 2 ^ (h + j + (p + span)) ≡ 2 ^ h * 2 ^ j * (2 ^ p * 2 ^ span) = pow22 h j p span in
    let c : 2 ^ (w + w) ≡ 2 ^ w * 2 ^ w = pow-add 2 w w in
    let k : 2 ^ (w + w) < 2 ^ (h + j + (p + span)) = omega arith in
    exponent_below (w + w) (h + j + (p + span)) k

-- a number with an exact inverse is not denormal
not_low : (shape : Shape) (m i : ℕ) (e : ℤ) → IsNormalAt shape m e
    → AreInverse (format_at shape) (quanta_at shape.min_exp m e) i → shape.min_exp ≤ℤ e
not_low shape m i e n h =
    by_lt_z e shape.min_exp
    (λ l. let k = quanta_low_is shape m e n shape.parameters.precision_low l in
    let g = h.normal in absurd (omega arith))
    (λ l. l)

-- a number with an exact inverse is invertible
pub invertible_from : (shape : Shape) (m i : ℕ) (e : ℤ) → IsNormalAt shape m e
    → AreInverse (format_at shape) (quanta_at shape.min_exp m e) i → IsInvertibleAt shape m e
invertible_from shape m i e n h =
    let high : ℕ = shape.precision - 1 in
    let p : m ≡ 2 ^ (shape.precision - 1) = is_power shape m i e n h in
    let l : shape.min_exp ≤ℤ e = not_low shape m i e n h in
    let j : ℕ = steps_of shape e in
    let w : ℕ = (format_at shape).scale in
    let q : quanta_at shape.min_exp m e ≡ 2 ^ (shape.precision - 1) * 2 ^ steps_of shape e =
    quanta_high_is shape m e l ∙ ap (λ (x : ℕ). x * 2 ^ steps_of shape e) p in
    let g : 2 ^ (shape.precision - 1) * 2 ^ steps_of shape e * i
    ≡ 2 ^ (format_at shape).scale * 2 ^ (format_at shape).scale = ap (λ (x : ℕ). x * i) (sym q) ∙ h.product in
    let c = scale_is shape in
    let short = short_inverse (shape.precision - 1) (steps_of shape e) (format_at shape).scale i h.inverse_normal g in
    let t : greatest_significand shape.nonfinite shape.precision * 2 ^ (format_at shape).span
    < 2 ^ shape.precision * 2 ^ (format_at shape).span =
    mul-lt-mul_of_pos_right (greatest_fits shape.nonfinite shape.precision) (pow_pos (format_at shape).span) in
    let b = h.within in
    let long = long_inverse (shape.precision - 1) (steps_of shape e)
    (format_at shape).scale i shape.precision (format_at shape).span (omega arith) g in
    record {
      power = p;
      normal = l;
      inverse_normal = omega (arith, ints, short, c, l);
      inverse_within = omega (arith, ints, long, c, l, shape.parameters);
    }

-- the opposite of an exponent fits in the type of exponents
pub opposite_word : (shape : Shape) (m : ℕ) (e : ℤ) → IsNormalAt shape m e → to_z w32 (of_z w32 (pos 0 -ℤ e)) ≡ neg_ℤ e
opposite_word shape m e n =
    let x = normal_near shape m e n in
    let z : pos 0 -ℤ e ≡ neg_ℤ e = omega (arith, ints) in
    to_z-of_z w32 (pos 0 -ℤ e) (fits_in w32 (pos 0 -ℤ e) (omega (arith, ints, x.within))) ∙ z

-- the inverse of an invertible number is the one with the opposite exponent
pub inverse_answer : (shape : Shape) (negative : Bool) (m : ℕ) (e : ℤ) → IsNormalAt shape m e
    → IsInvertibleAt shape m e → IsExactInverse (format_at shape) (finite negative (quanta_at shape.min_exp m e))
    (Some (finite negative (quanta_at shape.min_exp m (neg_ℤ e))))
inverse_answer shape b m e n i = (quanta_at shape.min_exp m (neg_ℤ e), inverted_product shape m e n i, refl)

-- a number that is not invertible has no exact inverse
pub no_inverse_answer : (shape : Shape) (negative : Bool) (m : ℕ) (e : ℤ) → IsNormalAt shape m e
    → (IsInvertibleAt shape m e → ⊥)
    → IsExactInverse (format_at shape) (finite negative (quanta_at shape.min_exp m e)) None
no_inverse_answer shape b m e n i = λ inverse h. i (invertible_from shape m inverse e n h)
