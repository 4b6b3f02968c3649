-- A fraction that agrees with a square root, where both are multiplied by a number, and how both are delivered.
use Rattle.std.proofs.Common.{◌≡◌, ℕ, ◌*◌, ◌<◌, false, ap, subst, lit<, arith}
use Rattle.std.proofs.Math.Nat.{mul-lt-mul_of_pos_right, mul-pos, lt_of_mul-lt-mul_right}
use Rattle.apfloat_model.specs.{declared.kinds.Round.Round, formats.Format.Format, formats.Datum.Datum}
use Rattle.apfloat_model.specs.{rounding.Rounding.IsDelivered, arithmetic.Roots.IsDeliveredRoot}
use Rattle.apfloat_model.proofs.{Once.delivered_root_once, rounding.Laws.delivered_exists}
use Rattle.apfloat_model.proofs.arithmetic.RootDeliveries.{root_delivered}
use Rattle.apfloat_model.proofs.arithmetic.RootSides.{AgreesWithRoot, coarser, agreeing}

-- a fraction whose two numbers are multiplied by the same number agrees as before
pub scaled_agrees : (square fine amount parts times : ℕ) → 0 < times → AgreesWithRoot square fine amount parts
    → AgreesWithRoot square fine (amount * times) (parts * times)
scaled_agrees square fine amount parts times p a = record {
  some = mul-pos a.some p;
  less = λ n h. omega (arith, mul-lt-mul_of_pos_right (a.less n h) p);
  same = λ n h. omega (arith, ap (λ (x : ℕ). x * times) (a.same n h));
  more = λ n h. omega (arith, mul-lt-mul_of_pos_right (a.more n h) p);
}

-- a fraction that agrees at finer multiples agrees, multiplied, with the root multiplied
pub moved_agrees : (square fine times amount parts : ℕ) → AgreesWithRoot square (fine * times) amount parts
    → AgreesWithRoot (square * (times * times)) fine (amount * times) parts
moved_agrees square fine times amount parts a = record {
  some = a.some;
  less = λ n h.
      let k : n * parts < amount * (fine * times) = a.less n (omega (arith, h)) in
      omega (arith, k);
  same = λ n h.
      let k : n * parts ≡ amount * (fine * times) = a.same n (omega (arith, h)) in
      omega (arith, k);
  more = λ n h.
      let k : amount * (fine * times) < n * parts = a.more n (omega (arith, h)) in
      omega (arith, k);
}

-- a fraction that agrees with the root of a positive number is positive
pub root_some : (square fine amount parts : ℕ) → 0 < square → 0 < fine → AgreesWithRoot square fine amount parts
    → 0 < amount
root_some square fine amount parts p q a =
    let k : 0 * parts < amount * fine = a.less 0 (omega (arith, mul-pos p (mul-pos q q))) in
    lt_of_mul-lt-mul_right fine (omega (arith, k))

-- as the root is delivered, so is a fraction that agrees with it at quarters
pub fraction_delivered : (f : Format) (mode : Round) (square parts amount units : ℕ) (value : Datum) (status : ℕ)
    → 0 < f.precision → 0 < parts → AgreesWithRoot square 4 amount units
    → IsDeliveredRoot f mode square parts value status → IsDelivered f mode false amount (units * parts) value status
fraction_delivered f mode square parts amount units value status precise some agrees d =
    let r = delivered_exists f mode false amount (units * parts) precise (mul-pos agrees.some some) in
    let e = delivered_root_once f mode square parts r.0 value r.1.0 status
    (root_delivered square parts amount units agrees f mode r.0 r.1.0 r.1.1) d in
    subst (λ (v : Datum). IsDelivered f mode false amount (units * parts) v status) e.0
    (subst (λ (s : ℕ). IsDelivered f mode false amount (units * parts) r.0 s) e.1 r.1.1)

-- as a root is delivered, so is the same root of a square and of parts that are multiplied
pub multiplied_root : (f : Format) (mode : Round) (square times : ℕ) (value : Datum) (status : ℕ)
    → 0 < f.precision → 0 < times → IsDeliveredRoot f mode square 1 value status
    → IsDeliveredRoot f mode (square * (times * times)) times value status
multiplied_root f mode square times value status precise some d =
    let four : 0 < 4 * times = omega (arith, some) in
    let r = agreeing square (4 * times) four in
    let scaled : AgreesWithRoot square 4 (r.amount * times) (r.parts * times) =
    scaled_agrees square 4 r.amount r.parts times some (coarser square 4 times r.amount r.parts some r.agrees) in
    let fraction : IsDelivered f mode false (r.amount * times) (r.parts * times * 1) value status =
    fraction_delivered f mode square 1 (r.amount * times) (r.parts * times) value status precise (lit< tt) scaled d in
    let e : r.parts * times * 1 ≡ r.parts * times = omega arith in
    root_delivered (square * (times * times)) times (r.amount * times) r.parts
    (moved_agrees square 4 times r.amount r.parts r.agrees) f mode value status
    (subst (λ (x : ℕ). IsDelivered f mode false (r.amount * times) x value status) e fraction)
