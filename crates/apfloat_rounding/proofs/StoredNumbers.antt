-- Numbers of quanta and their stored form.
use Rattle.std.proofs.Common.{refl, zero, suc, ◌≡◌, ℕ, ◌+◌, ◌-◌, ◌*◌, ◌/◌, ◌^◌, ◌<◌}
use Rattle.std.proofs.Common.{◌≤◌, ℤ, pos, ◌+ℤ◌, ◌-ℤ◌, sym, ap, ◌∙◌, ⊎_elim, arith}
use Rattle.std.proofs.Math.Nat.{mul-le-mul_right, mul-le-mul_left, pow-le-pow_right}
use Rattle.std.proofs.lemmas.{Nat.pow-add, Nat.pow_pos, Nat.shl-shr, Int.ints, Bool.cases_lt}
use Rattle.std.specs.Prelude.{neg_ℤ}
use Rattle.apfloat_model.specs.{formats.Format.greatest_significand, arithmetic.Exact.up, arithmetic.Exact.down}
use Rattle.apfloat_model.proofs.{general.Powers.two_pos, general.Powers.twice_half, formats.Greatest.greatest_fits}
use Rattle.apfloat_model.proofs.rounding.KeptDigits.{digits_le, some_digits, fits_shifted, full_shifted, same_quanta}
use Rattle.apfloat_rounding.specs.{declared.shape.Shape.Shape, Shapes.format_at}
use Rattle.apfloat_rounding.specs.Stored.{IsQuantaAt, quanta_at, IsNormalAt}

-- if a number is an integral number of quanta, `quanta_at` is that number
pub quanta_is : (min_exp : ℤ) (s : ℕ) (e : ℤ) (n : ℕ) → IsQuantaAt min_exp s e n → quanta_at min_exp s e ≡ n
unfolding quanta_at
quanta_is min_exp s e n h = rw (← h) (shl-shr n (down (e -ℤ min_exp)))

-- if a number is an integral number of quanta, `quanta_at` counts them exactly
pub whole_is : (min_exp : ℤ) (s : ℕ) (e : ℤ) (n : ℕ) → IsQuantaAt min_exp s e n
    → IsQuantaAt min_exp s e (quanta_at min_exp s e)
whole_is min_exp s e n h = rw (quanta_is min_exp s e n h) h

-- a number that is at most the largest value has its integer bit no higher than that value
top_place : (half m place shift top span : ℕ) → half ≤ m * 2 ^ shift → top < 2 * half
    → m * 2 ^ place ≤ top * 2 ^ span → place ≤ span + shift
top_place half m place shift top span full low within =
    ⊎_elim
    (λ (h : span + shift < place).
    let a : 2 ^ (span + shift + 1) ≤ 2 ^ place = pow-le-pow_right two_pos (omega arith) in
    let b : 2 ^ (span + shift + 1) ≡ 2 ^ span * 2 ^ shift * 2 = pow-add 2 (span + shift) 1 ∙
    ap (λ (x : ℕ). x * 2) (pow-add 2 span shift) in
    let c : half * 2 ^ place ≤ m * 2 ^ shift * 2 ^ place = mul-le-mul_right (2 ^ place) full in
    let d : m * 2 ^ place * 2 ^ shift ≤ top * 2 ^ span * 2 ^ shift = mul-le-mul_right (2 ^ shift) within in
    let e : half * (2 ^ span * 2 ^ shift * 2) ≤ half * 2 ^ place = mul-le-mul_left half (omega arith) in
    let p : 1 ≤ 2 ^ span = pow_pos span in
    let q : 1 * 2 ^ shift ≤ 2 ^ span * 2 ^ shift = mul-le-mul_right (2 ^ shift) p in
    let r : 0 < 2 ^ shift = pow_pos shift in
    let k : (top + 1) * (2 ^ span * 2 ^ shift) ≤ 2 * half * (2 ^ span * 2 ^ shift) =
    mul-le-mul_right (2 ^ span * 2 ^ shift) (omega arith) in
    absurd (omega arith))
    (λ (h : place ≤ span + shift). h)
    (cases_lt (span + shift) place)

-- a significand that is moved up to its integer bit, and is within the largest value, is a stored number
pub normal_at : (shape : Shape) (m place shift : ℕ) (e : ℤ) → m * 2 ^ shift < 2 ^ shape.precision
    → 2 ^ (shape.precision - 1) ≤ m * 2 ^ shift → shift < shape.precision
    → e ≡ (shape.min_exp +ℤ pos place) -ℤ pos shift → IsQuantaAt shape.min_exp (m * 2 ^ shift) e (m * 2 ^ place)
    → m * 2 ^ place ≤ greatest_significand shape.nonfinite shape.precision * 2 ^ (format_at shape).span
    → IsNormalAt shape (m * 2 ^ shift) e
normal_at shape m place shift e fits full short is quanta within =
    let t : 2 * 2 ^ (shape.precision - 1) ≡ 2 ^ shape.precision =
    twice_half shape.precision (omega (arith, shape.parameters.precision_low)) in
    let g = greatest_fits shape.nonfinite shape.precision in
    let p : place ≤ (format_at shape).span + shift = top_place (2 ^ (shape.precision - 1)) m place shift
    (greatest_significand shape.nonfinite shape.precision) (format_at shape).span full (omega (arith, g, t)) within in
    record {
      operand = record {
        fits = fits;
        full = full;
        least = omega (arith, ints);
        greatest = omega (arith, ints, shape.parameters, p);
      };
      whole = whole_is shape.min_exp (m * 2 ^ shift) e (m * 2 ^ place) quanta;
      within = rw (quanta_is shape.min_exp (m * 2 ^ shift) e (m * 2 ^ place) quanta) within;
    }

-- a number moved up by as many digits as it is short of the precision
pub record IsMovedUp (shape : Shape) (m digits place w : ℕ) (e : ℤ) : Type 0 where
  pub fits : m < 2 ^ shape.precision
  pub some : m ≡ 0 → ⊥
  pub below : m < 2 ^ digits
  pub full : 0 < digits → 2 ^ (digits - 1) ≤ m
  pub moved : w ≡ m * 2 ^ (shape.precision - digits)
  pub exponent : e ≡ (shape.min_exp +ℤ pos place) -ℤ pos (shape.precision - digits)
  pub same : (shape.precision - digits) + up (e -ℤ shape.min_exp) ≡ place + down (e -ℤ shape.min_exp)
  pub within : m * 2 ^ place ≤ greatest_significand shape.nonfinite shape.precision * 2 ^ (format_at shape).span

-- a significand that was moved up is m * 2 ^ place quanta
moved_quanta : (shape : Shape) (m digits place w : ℕ) (e : ℤ) → IsMovedUp shape m digits place w e
    → IsQuantaAt shape.min_exp w e (m * 2 ^ place)
moved_quanta shape m digits place w e h =
    sym (same_quanta m (shape.precision - digits) place (up (e -ℤ shape.min_exp))
    (down (e -ℤ shape.min_exp)) w (sym h.moved) h.same)

-- `quanta_at` of a significand that was moved up is m * 2 ^ place
pub moved_up_quanta : (shape : Shape) (m digits place w : ℕ) (e : ℤ) → IsMovedUp shape m digits place w e
    → quanta_at shape.min_exp w e ≡ m * 2 ^ place
moved_up_quanta shape m digits place w e h = quanta_is shape.min_exp w e (m * 2 ^ place)
    (moved_quanta shape m digits place w e h)

-- a significand that was moved up is a stored number
pub moved_up_normal : (shape : Shape) (m digits place w : ℕ) (e : ℤ) → IsMovedUp shape m digits place w e
    → IsNormalAt shape w e
moved_up_normal shape m digits place w e h =
    let l : digits ≤ shape.precision = digits_le m digits shape.precision h.fits h.full in
    let d : 0 < digits = some_digits m digits h.below h.some in
    let f : m * 2 ^ (shape.precision - digits) < 2 ^ shape.precision =
    fits_shifted m digits (shape.precision - digits) shape.precision h.below (omega arith) in
    let g : 2 ^ (shape.precision - 1) ≤ m * 2 ^ (shape.precision - digits) =
    full_shifted m digits (shape.precision - digits) shape.precision d h.full (omega arith) in
    let q : IsQuantaAt shape.min_exp (m * 2 ^ (shape.precision - digits)) e (m * 2 ^ place) =
    rw h.moved at (moved_quanta shape m digits place w e h) in
    rw h.moved (normal_at shape m place (shape.precision - digits) e f g (omega arith) h.exponent q h.within)

-- ---- numbers below the least normal exponent, and from it up

-- for the integer -d, `down` is d and `up` is 0
below_zero : (z : ℤ) (d : ℕ) → neg_ℤ (pos d) ≡ z → (down z ≡ d) × (up z ≡ 0)
below_zero z zero e = rw (← e) (refl, refl)
below_zero z (suc d) e = rw (← e) (refl, refl)

-- for the integer j, which is not negative, `up` is j and `down` is 0
pub above_zero : (z : ℤ) (j : ℕ) → pos j ≡ z → (up z ≡ j) × (down z ≡ 0)
above_zero z j e = rw (← e) (refl, refl)

-- below the least exponent, the number of quanta is the significand, cut
pub quanta_low : (shape : Shape) (m : ℕ) (e : ℤ) (d : ℕ) → pos d ≡ shape.min_exp -ℤ e
    → quanta_at shape.min_exp m e ≡ m / 2 ^ d
unfolding quanta_at
quanta_low shape m e d p =
    let a = below_zero (e -ℤ shape.min_exp) d (omega (arith, ints)) in
    let b : m * 1 ≡ m = omega arith in
    rw (a.0, a.1, b) refl

-- below the least exponent, the number of quanta is below that of numbers with all digits
pub quanta_low_below : (shape : Shape) (m : ℕ) (e : ℤ) (d : ℕ) → IsNormalAt shape m e → 3 ≤ shape.precision
    → pos d ≡ shape.min_exp -ℤ e → 1 ≤ d → quanta_at shape.min_exp m e < 2 ^ (shape.precision - 1)
quanta_low_below shape m e d n p k h =
    let q : ℕ = quanta_at shape.min_exp m e in
    let a = below_zero (e -ℤ shape.min_exp) d (omega (arith, ints)) in
    let t : 2 * 2 ^ (shape.precision - 1) ≡ 2 ^ shape.precision = twice_half shape.precision (omega arith) in
    let w : quanta_at shape.min_exp m e * 2 ^ down (e -ℤ shape.min_exp) ≡ m * 2 ^ up (e -ℤ shape.min_exp) = n.whole in
    let v : quanta_at shape.min_exp m e * 2 ^ d ≡ m * 2 ^ 0 =
    ap (λ (x : ℕ). quanta_at shape.min_exp m e * 2 ^ x) (sym a.0) ∙ w ∙ ap (λ (x : ℕ). m * 2 ^ x) a.1 in
    let b : 2 ^ 1 ≤ 2 ^ d = pow-le-pow_right two_pos h in
    let c : quanta_at shape.min_exp m e * 2 ≤ quanta_at shape.min_exp m e * 2 ^ d = mul-le-mul_left q b in
    let f = n.operand.fits in
    omega arith

-- from the least exponent up, the number of quanta is the significand, moved up
pub quanta_high : (shape : Shape) (m : ℕ) (e : ℤ) (j : ℕ) → pos j ≡ e -ℤ shape.min_exp
    → quanta_at shape.min_exp m e ≡ m * 2 ^ j
unfolding quanta_at
quanta_high shape m e j p =
    let a = above_zero (e -ℤ shape.min_exp) j p in
    let b : m * 2 ^ j * 2 ^ 0 ≡ m * 2 ^ j = omega arith in
    rw (a.0, a.1) (rw b at (shl-shr (m * 2 ^ j) 0))
