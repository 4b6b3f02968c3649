-- Fractions that no multiple of a given fraction separates from a square root.
use Rattle.std.proofs.Common.{◌≡◌, ℕ, zero, suc, ◌+◌, ◌*◌, ◌<◌, ◌≤◌, ap, subst, ⊎_elim, arith}
use Rattle.std.proofs.Math.Nat.{mul-lt-mul_of_pos_right, mul-pos, lt_of_mul-lt-mul_right, le_of_mul-le-mul_right}
use Rattle.std.proofs.lemmas.{Nat.mul-le, Nat.mul-lt, Bool.cases_lt}

-- each multiple of 1 / fine compares with amount / parts as it does with the root of `square`
pub record AgreesWithRoot (square fine amount parts : ℕ) : Type 0 where
  pub some : 0 < parts
  pub less : (n : ℕ) → n * n < square * (fine * fine) → n * parts < amount * fine
  pub same : (n : ℕ) → n * n ≡ square * (fine * fine) → n * parts ≡ amount * fine
  pub more : (n : ℕ) → square * (fine * fine) < n * n → amount * fine < n * parts

-- the square of a smaller number is smaller
pub square_lt : (m n : ℕ) → m < n → m * m < n * n
square_lt m n h = mul-lt m m n n h h

pub square_le : (m n : ℕ) → m ≤ n → m * m ≤ n * n
square_le m n h = mul-le m m n n h h

-- of two squares, the smaller one is that of the smaller number
pub root_lt : (m n : ℕ) → m * m < n * n → m < n
root_lt m n h = ⊎_elim (λ (q : m < n). q)
    (λ (q : n ≤ m). let k : n * n ≤ m * m = square_le n m q in absurd (omega arith))
    (cases_lt m n)

pub root_le : (m n : ℕ) → m * m ≤ n * n → m ≤ n
root_le m n h = ⊎_elim (λ (q : n < m). let k : n * n < m * m = square_lt n m q in absurd (omega arith))
    (λ (q : m ≤ n). q)
    (cases_lt n m)

-- an integer square root: the greatest number whose square is at most `square`
pub record IsWholeRoot (root square : ℕ) : Type 0 where
  pub from : root * root ≤ square
  pub to : square < (root + 1) * (root + 1)

-- the integer square root increases by 1 where the next square is reached
next_root : (root square : ℕ) → IsWholeRoot root square → (next : ℕ) × IsWholeRoot next (square + 1)
next_root root square h =
    let f : root * root ≤ square = h.from in
    let t : square < (root + 1) * (root + 1) = h.to in
    ⊎_elim
    (λ (q : square + 1 < (root + 1) * (root + 1)). (root, record { from = omega arith; to = q }))
    (λ (q : (root + 1) * (root + 1) ≤ square + 1). (root + 1, record { from = q; to = omega arith }))
    (cases_lt (square + 1) ((root + 1) * (root + 1)))

-- each number has an integer square root
pub whole_root : (square : ℕ) → (root : ℕ) × IsWholeRoot root square
whole_root zero = (0, record { from = omega arith; to = omega arith })
whole_root (suc n) =
    let e : n + 1 ≡ suc n = omega arith in
    let w = whole_root n in
    subst (λ (x : ℕ). (root : ℕ) × IsWholeRoot root x) e (next_root w.0 n w.1)

-- the squares of both, times the same square
same_scaled : (square c g n : ℕ) → n * n ≡ square * (c * c) → (n * g) * (n * g) ≡ square * (c * g * (c * g))
same_scaled square c g n h =
    let k : n * n * (g * g) ≡ square * (c * c) * (g * g) = ap (λ (x : ℕ). x * (g * g)) h in
    omega arith

-- a fraction that agrees at multiples of a fraction agrees at multiples of a coarser one
pub coarser : (square coarse times amount parts : ℕ) → 0 < times
    → AgreesWithRoot square (coarse * times) amount parts → AgreesWithRoot square coarse amount parts
coarser square c g amount parts p a =
    let v : 0 < g * g = mul-pos p p in
    record {
      some = a.some;
      less = λ n h.
          let k : n * n * (g * g) < square * (c * c) * (g * g) = mul-lt-mul_of_pos_right h v in
          let l : (n * g) * (n * g) < square * (c * g * (c * g)) = omega arith in
          let r : n * g * parts < amount * (c * g) = a.less (n * g) l in
          let s : n * parts * g < amount * c * g = omega arith in
          lt_of_mul-lt-mul_right g s;
      same = λ n h.
          let l : (n * g) * (n * g) ≡ square * (c * g * (c * g)) = same_scaled square c g n h in
          let r : n * g * parts ≡ amount * (c * g) = a.same (n * g) l in
          let s : n * parts * g ≤ amount * c * g = omega arith in
          let t : amount * c * g ≤ n * parts * g = omega arith in
          let x : n * parts ≤ amount * c = le_of_mul-le-mul_right s p in
          let y : amount * c ≤ n * parts = le_of_mul-le-mul_right t p in
          omega arith;
      more = λ n h.
          let k : square * (c * c) * (g * g) < n * n * (g * g) = mul-lt-mul_of_pos_right h v in
          let l : square * (c * g * (c * g)) < (n * g) * (n * g) = omega arith in
          let r : amount * (c * g) < n * g * parts = a.more (n * g) l in
          let s : amount * c * g < n * parts * g = omega arith in
          lt_of_mul-lt-mul_right g s;
    }

-- the root of a perfect square agrees with itself
pub exact_agrees : (square fine root : ℕ) → 0 < fine → root * root ≡ square * (fine * fine)
    → AgreesWithRoot square fine root fine
exact_agrees square fine root p e = record {
  some = p;
  less = λ n h.
      let k : n < root = root_lt n root (omega arith) in
      mul-lt-mul_of_pos_right k p;
  same = λ n h.
      let k : n ≤ root = root_le n root (omega arith) in
      let l : root ≤ n = root_le root n (omega arith) in
      let d : n ≡ root = omega arith in
      ap (λ (x : ℕ). x * fine) d;
  more = λ n h.
      let k : root < n = root_lt root n (omega arith) in
      mul-lt-mul_of_pos_right k p;
}

-- if the root is between two multiples, their midpoint agrees
pub inexact_agrees : (square fine root : ℕ) → 0 < fine → root * root < square * (fine * fine)
    → square * (fine * fine) < (root + 1) * (root + 1) → AgreesWithRoot square fine (2 * root + 1) (2 * fine)
inexact_agrees square fine root p f t = record {
  some = omega arith;
  less = λ n h.
      let k : n < root + 1 = root_lt n (root + 1) (omega arith) in
      let l : 2 * n < 2 * root + 1 = omega arith in
      let m : 2 * n * fine < (2 * root + 1) * fine = mul-lt-mul_of_pos_right l p in
      omega arith;
  same = λ n h.
      let k : n < root + 1 = root_lt n (root + 1) (omega arith) in
      let l : root < n = root_lt root n (omega arith) in
      absurd (omega arith);
  more = λ n h.
      let k : root < n = root_lt root n (omega arith) in
      let l : 2 * root + 1 < 2 * n = omega arith in
      let m : (2 * root + 1) * fine < 2 * n * fine = mul-lt-mul_of_pos_right l p in
      omega arith;
}

-- a fraction that agrees
pub record HasAgreeing (square fine : ℕ) : Type 0 where
  pub amount : ℕ
  pub parts : ℕ
  pub agrees : AgreesWithRoot square fine amount parts

-- there is such a fraction for each `fine`
pub agreeing : (square fine : ℕ) → 0 < fine → HasAgreeing square fine
agreeing square fine p =
    let w = whole_root (square * (fine * fine)) in
    let root = w.0 in
    let f : root * root ≤ square * (fine * fine) = w.1.from in
    ⊎_elim
    (λ (q : root * root < square * (fine * fine)).
    record { amount = 2 * root + 1; parts = 2 * fine; agrees = inexact_agrees square fine root p q w.1.to })
    (λ (q : square * (fine * fine) ≤ root * root).
    record { amount = root; parts = fine; agrees = exact_agrees square fine root p (omega arith) })
    (cases_lt (root * root) (square * (fine * fine)))
