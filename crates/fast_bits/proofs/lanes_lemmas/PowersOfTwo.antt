-- A power of two by the binary digits of its exponent.
use Rattle.std.proofs.{Math.Nat.max-eq_left, lemmas.Nat.pow-add, lemmas.Nat.pow_pos, lemmas.Bool.cases_lt}
use Rattle.std.proofs.Common.{◌≡◌, ℕ, ◌+◌, ◌*◌, ◌/◌, ◌%◌, ◌^◌, ◌<◌, ◌≤◌, max, refl, sym, ap, ◌∙◌, subst, ⊎_elim, arith}

-- that of one digit, which stands for `places` places
of_digit : (digit places : ℕ) → digit < 2 → max (digit * 2 ^ places) 1 ≡ 2 ^ (digit * places)
of_digit digit places below =
    let Said : ℕ → Type 0 = λ d. max (d * 2 ^ places) 1 ≡ 2 ^ (d * places) in
    ⊎_elim {C = Said digit}
    (λ (l : digit < 1).
    let zero : 0 ≡ digit = omega (arith, l) in
    let none : 0 * 2 ^ places ≡ 0 = omega arith in
    let same : 0 ≡ 0 * places = omega arith in
    subst Said zero (ap (λ (n : ℕ). max n 1) none ∙ ap (λ (n : ℕ). 2 ^ n) same))
    (λ (l : 1 ≤ digit).
    let one : 1 ≡ digit = omega (arith, l, below) in
    let some : 0 < 2 ^ places = pow_pos places in
    let same : places ≡ 1 * places = omega arith in
    subst Said one (max-eq_left (omega (arith, some)) ∙ omega arith ∙ ap (λ (n : ℕ). 2 ^ n) same))
    (cases_lt digit 1)

-- that of the lowest digit
of_last : (digit : ℕ) → digit < 2 → digit + 1 ≡ 2 ^ digit
of_last digit below =
    let Said : ℕ → Type 0 = λ d. d + 1 ≡ 2 ^ d in
    ⊎_elim {C = Said digit}
    (λ (l : digit < 1). let zero : 0 ≡ digit = omega (arith, l) in subst Said zero refl)
    (λ (l : 1 ≤ digit). let one : 1 ≡ digit = omega (arith, l, below) in subst Said one refl)
    (cases_lt digit 1)

-- that of four digits
pub of_digits : (n : ℕ) → n < 2 ^ 4
    → (n % 2 + 1) * max (n / 2 % 2 * 2 ^ 2) 1 * (max (n / 4 % 2 * 2 ^ 4) 1 * max (n / 8 % 2 * 2 ^ 8) 1) ≡ 2 ^ n
of_digits n below =
    let low = n % 2 + n / 2 % 2 * 2 in
    let high = n / 4 % 2 * 4 + n / 8 % 2 * 8 in
    let sum : low + high ≡ n = omega (arith, below) in
    (λ i. of_last (n % 2) (omega arith) i * of_digit (n / 2 % 2) 2 (omega arith) i
    * (of_digit (n / 4 % 2) 4 (omega arith) i * of_digit (n / 8 % 2) 8 (omega arith) i))
    ∙ sym ((λ i. pow-add 2 (n % 2) (n / 2 % 2 * 2) i * pow-add 2 (n / 4 % 2 * 4) (n / 8 % 2 * 8) i))
    ∙ sym (pow-add 2 low high) ∙ ap (λ (x : ℕ). 2 ^ x) sum
