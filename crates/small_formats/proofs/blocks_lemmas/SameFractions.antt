-- What is delivered for a fraction is delivered for an equal one.
use Rattle.std.proofs.Common.{◌≡◌, ℕ, ◌+◌, ◌*◌, ◌<◌, Bool, ap, arith}
use Rattle.std.proofs.Math.Nat.{mul-lt-mul_of_pos_right, lt_of_mul-lt-mul_right, eq_of_mul-eq-mul_right}
use Rattle.apfloat_model.specs.{declared.kinds.Round.Round, formats.Datum.Datum, formats.Format.Format}
use Rattle.apfloat_model.specs.rounding.Rounding.{IsDelivered}
use Rattle.round_to_odd.proofs.{SameDeliveries.same_delivered, Sides.SameSides}

-- a / b and c / d are on the same side of every point
pub same_fraction : (digits fine a b c d : ℕ) → 0 < b → 0 < d → a * d ≡ c * b → SameSides digits fine a b c d
same_fraction digits fine a b c d p q e =
    let both : a * fine * d ≡ c * fine * b =
    let x : a * d * fine ≡ c * b * fine = ap (λ (y : ℕ). y * fine) e in omega (arith, x) in
    record {
      less = λ n g h.
          let k : n * b * d < a * fine * d = mul-lt-mul_of_pos_right h q in
          lt_of_mul-lt-mul_right b (omega (arith, k, both));
      same = λ n g h.
          let k : n * b * d ≡ a * fine * d = ap (λ (y : ℕ). y * d) h in
          eq_of_mul-eq-mul_right b p (n * d) (c * fine) (omega (arith, k, both));
      more = λ n g h.
          let k : a * fine * d < n * b * d = mul-lt-mul_of_pos_right h q in
          lt_of_mul-lt-mul_right b (omega (arith, k, both));
    }

pub delivered_across : (f : Format) (mode : Round) (negative : Bool) (a b c d : ℕ) (value : Datum) (status : ℕ)
    → 0 < f.precision → 0 < b → 0 < d → a * d ≡ c * b → IsDelivered f mode negative c d value status
    → IsDelivered f mode negative a b value status
delivered_across f mode negative a b c d value status some p q e h =
    same_delivered f a b c d (same_fraction (f.precision + 1) 2 a b c d p q e)
    (λ _. same_fraction (f.precision + 1) 4 a b c d p q e) some mode negative value status q h
