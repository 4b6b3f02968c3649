-- Two magnitudes that compare alike with points of another quantum.
use Rattle.std.proofs.Common.{◌≡◌, ℕ, ◌+◌, ◌-◌, ◌*◌, ◌^◌, ◌<◌, ◌≤◌, sym, ap, ◌∙◌, subst, arith}
use Rattle.std.proofs.Math.Nat.{mul-lt-mul_of_pos_right, lt_of_mul-lt-mul_right, eq_of_mul-eq-mul_right, mul-pos}
use Rattle.std.proofs.lemmas.Nat.{pow-add, pow_pos}
use Rattle.apfloat_model.specs.rounding.Grid.{IsOnGrid}
use Rattle.apfloat_model.proofs.general.Powers.{pow3}
use Rattle.round_to_odd.proofs.OddPoints.{AgreesAtEven, wider_grid, moved_on_grid}

-- each point of `digits` digits, in units of 1 / fine, compares with a / b as with c / d
pub record SameSides (digits fine a b c d : ℕ) : Type 0 where
  pub less : (n : ℕ) → IsOnGrid digits n → n * b < a * fine → n * d < c * fine
  pub same : (n : ℕ) → IsOnGrid digits n → n * b ≡ a * fine → n * d ≡ c * fine
  pub more : (n : ℕ) → IsOnGrid digits n → a * fine < n * b → c * fine < n * d

-- units of a point that agrees at even multiples, moved: X is the distance in places, G and T those of both quanta
sides_in : (digits wide G T X amount parts point : ℕ) → 0 < G * T
    → ((n : ℕ) → IsOnGrid digits n → IsOnGrid wide (n * X)) → AgreesAtEven wide amount parts point
    → SameSides digits T (amount * G) (parts * (2 * X * (G * T))) (point * G) (2 * X * (G * T))
sides_in digits wide G T X amount parts point p grid a = record {
  less = λ n g h.
      let r : 2 * (n * X) < point = a.less (n * X) (grid n g) (lt_of_mul-lt-mul_right (G * T) (omega (arith, h))) in
      omega (arith, mul-lt-mul_of_pos_right r p);
  same = λ n g h.
      let k : 2 * (n * X) * parts ≡ amount =
      eq_of_mul-eq-mul_right (G * T) p (2 * (n * X) * parts) amount (omega (arith, h)) in
      omega (arith, ap (λ (x : ℕ). x * (G * T)) (a.same (n * X) (grid n g) k));
  more = λ n g h.
      let r : point < 2 * (n * X) = a.more (n * X) (grid n g) (lt_of_mul-lt-mul_right (G * T) (omega (arith, h))) in
      omega (arith, mul-lt-mul_of_pos_right r p);
}

-- The magnitude and the odd point, in quanta of a format whose scale is `coarse`, where those of the point have the
-- scale `finer`: they compare alike with points of `digits` digits in units of 2 ^ -t quanta.
pub same_sides : (digits wide coarse finer t amount parts point : ℕ) → digits ≤ wide → coarse + t + 1 ≤ finer
    → AgreesAtEven wide amount parts point
    → SameSides digits (2 ^ t) (amount * 2 ^ coarse) (parts * 2 ^ finer) (point * 2 ^ coarse) (2 ^ finer)
same_sides digits wide coarse finer t amount parts point l h a =
    let w = finer - (coarse + t + 1) in
    let e : finer ≡ 1 + w + (coarse + t) = omega arith in
    let f : 2 ^ finer ≡ 2 * 2 ^ w * (2 ^ coarse * 2 ^ t) =
    ap (λ (x : ℕ). 2 ^ x) e ∙ pow3 1 w (coarse + t) ∙ ap (λ (x : ℕ). 2 ^ 1 * 2 ^ w * x) (pow-add 2 coarse t) in
    subst (λ (x : ℕ). SameSides digits (2 ^ t) (amount * 2 ^ coarse) (parts * x) (point * 2 ^ coarse) x) (sym f)
    (sides_in digits wide (2 ^ coarse) (2 ^ t) (2 ^ w) amount parts point (mul-pos (pow_pos coarse) (pow_pos t))
    (λ n g. wider_grid digits wide (n * 2 ^ w) l (moved_on_grid digits n w g)) a)
