-- How a number compares with the smallest one whose significand has all digits.
use Rattle.std.proofs.Common.{refl, sym, subst, ◌≡◌, ℕ, ◌-◌, ◌*◌, ◌^◌, ◌<◌, ◌≤◌, ℤ, ◌-ℤ◌, ◌<ℤ◌, ◌≤ℤ◌, Bool, true, false}
use Rattle.std.proofs.{Common.not, Common.T, Common.arith, Math.Nat.mul-le-mul_left}
use Rattle.std.proofs.lemmas.{Nat.pow_pos, Bool.lt-ltb, Bool.le-ltb, Int.ints}
use Rattle.std.specs.{Prelude.unsigned_abs, Prelude.ltb, Int.Signed.lt_z, Int.Signed.lt_z_yes, Int.Signed.lt_z_no}
use Rattle.apfloat_model.specs.formats.{Datum.finite, Format.Format, Format.smallest_normalized}
use Rattle.apfloat_model.specs.order.Classes.{is_denormal}
use Rattle.apfloat_rounding.specs.{declared.shape.Shape.Shape, Stored.IsNormalAt, Stored.quanta_at}
use Rattle.apfloat_rounding.proofs.StoredNumbers.{quanta_low_below, quanta_high}

-- a test that holds exactly if a is less than b has the result of the comparison
pub compares_as : (less : Bool) (a b : ℤ) (holds : Bool) → lt_z a b ≡ less
    → (a <ℤ b → holds ≡ true) → (b ≤ℤ a → holds ≡ false) → less ≡ holds
compares_as true a b x e f g = sym (f (lt_z_yes (subst T (sym e) tt)))
compares_as false a b x e f g = sym (g (lt_z_no (subst (λ (y : Bool). T (not y)) (sym e) tt)))

-- with an exponent below the least one, a number has fewer digits
pub quanta_low_is : (shape : Shape) (m : ℕ) (e : ℤ) → IsNormalAt shape m e → 3 ≤ shape.precision → e <ℤ shape.min_exp
    → quanta_at shape.min_exp m e < 2 ^ (shape.precision - 1)
quanta_low_is shape m e n p l =
    quanta_low_below shape m e (unsigned_abs (shape.min_exp -ℤ e)) n p (omega (arith, ints)) (omega (arith, ints))

-- a number with an exponent not below the least one is its significand moved up
pub quanta_high_is : (shape : Shape) (m : ℕ) (e : ℤ) → shape.min_exp ≤ℤ e
    → quanta_at shape.min_exp m e ≡ m * 2 ^ unsigned_abs (e -ℤ shape.min_exp)
quanta_high_is shape m e l = quanta_high shape m e (unsigned_abs (e -ℤ shape.min_exp)) (omega (arith, ints))

-- a number with an exponent not below the least one has all its digits
quanta_full : (shape : Shape) (m : ℕ) (e : ℤ) → IsNormalAt shape m e → shape.min_exp ≤ℤ e
    → 2 ^ (shape.precision - 1) ≤ quanta_at shape.min_exp m e
quanta_full shape m e n l =
    let q = quanta_high_is shape m e l in
    let f = n.operand.full in
    let o : 1 ≤ 2 ^ unsigned_abs (e -ℤ shape.min_exp) = pow_pos (unsigned_abs (e -ℤ shape.min_exp)) in
    let a : m * 1 ≤ m * 2 ^ unsigned_abs (e -ℤ shape.min_exp) = mul-le-mul_left m o in
    omega arith

-- a number is below the smallest one with all digits exactly if its exponent is below the least one
pub below_is : (shape : Shape) (m : ℕ) (e : ℤ) → IsNormalAt shape m e → 3 ≤ shape.precision
    → lt_z e shape.min_exp ≡ ltb (quanta_at shape.min_exp m e) (2 ^ (shape.precision - 1))
below_is shape m e n p =
    compares_as (lt_z e shape.min_exp) e shape.min_exp (ltb (quanta_at shape.min_exp m e) (2 ^ (shape.precision - 1)))
    refl (λ l. lt-ltb (quanta_at shape.min_exp m e) (2 ^ (shape.precision - 1)) (quanta_low_is shape m e n p l))
    (λ l. le-ltb (quanta_at shape.min_exp m e) (2 ^ (shape.precision - 1)) (quanta_full shape m e n l))

-- a nonzero number is denormal exactly if it is less than the smallest one with all digits
pub denormal_number : (format : Format) (negative : Bool) (n : ℕ) → 0 < n
    → is_denormal format (finite negative n) ≡ ltb n (smallest_normalized format)
denormal_number format b n p = rw (lt-ltb 0 n p) refl
