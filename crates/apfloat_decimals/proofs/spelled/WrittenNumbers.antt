-- Decimal digits of numbers: their number, and how a number is divided by a power of ten.
use Rattle.std.proofs.Common.{◌≡◌, ℕ, ◌+◌, ◌*◌, ◌/◌, ◌%◌, ◌^◌, ◌<◌, ◌≤◌, List, [], ◌∷◌, ◌++◌, length, ap, ◌∙◌, arith}
use Rattle.std.proofs.{Math.Nat.pow-le-pow_right, Math.Nat.mul-lt-mul_of_pos_right, lemmas.Fmt.decimal_by_steps_wide}
use Rattle.std.proofs.lemmas.{Fmt.decimal_step_wide, Fmt.decimal_digit, Fmt.length-decimal-le_wide, Nat.pow-add}
use Rattle.std.specs.Fmt.{decimal}
use Rattle.apfloat_decimals.proofs.numbers.Values.{power_pos}

pub length_more : (xs : List ℕ) (x : ℕ) → length (xs ++ (x ∷ [])) ≡ length xs + 1
length_more [] x = omega arith
length_more (c ∷ xs) x = let e = length_more xs x in omega arith

-- a number of 128 binary digits has at most 39 decimal digits
pub wide : (n : ℕ) → n < 2 ^ 128 → n < 10 ^ 39
wide n few = omega arith

pub few_digits : (n : ℕ) → n < 2 ^ 128 → length (decimal n) ≤ 39
few_digits n few = length-decimal-le_wide 39 n (omega arith) (omega arith) (omega arith)

-- a tenth of a number has one digit less
pub shorter : (n : ℕ) → 10 ≤ n → n < 2 ^ 128 → length (decimal n) ≡ length (decimal (n / 10)) + 1
shorter n some few =
    ap (λ (x : List ℕ). length x) (decimal_step_wide n some (omega arith))
    ∙ length_more (decimal (n / 10)) (48 + n % 10)

pub single : (n : ℕ) → n < 10 → length (decimal n) ≡ 1
single n few = ap (λ (x : List ℕ). length x) (decimal_digit n few)

-- a number is below the power of ten with its number of digits
pub below_power : (n : ℕ) → n < 2 ^ 128 → n < 10 ^ length (decimal n)
below_power n few =
    decimal_by_steps_wide (λ (m : ℕ) (ds : List ℕ). m < 10 ^ length ds) (λ m l. omega (arith, l))
    (λ m ds l below.
    let e : 10 ^ length (ds ++ ((48 + m % 10) ∷ [])) ≡ 10 ^ length ds * 10 ^ 1 =
    ap (λ (x : ℕ). 10 ^ x) (length_more ds (48 + m % 10)) ∙ pow-add 10 (length ds) 1 in
    omega (arith, e, below)) n (omega arith)

-- 10 ^ 38 and the lesser powers of ten fit in 128 bits
pub ten_small : (n : ℕ) → n ≤ 38 → 10 ^ n < 2 ^ 128
ten_small n l =
    let most : 10 ^ n ≤ 10 ^ 38 = pow-le-pow_right (omega arith) l in
    omega arith

-- a number of 128 binary digits is below each power of ten above 10 ^ 38
pub ten_great : (number places : ℕ) → number < 2 ^ 128 → 38 < places → number < 10 ^ places
ten_great number places few l =
    let more : 39 ≤ places = omega arith in
    let least : 10 ^ 39 ≤ 10 ^ places = pow-le-pow_right (omega arith) more in
    omega arith

-- an integer of at most 21 digits, times 10, fits in 128 bits
pub times_ten_small : (n e : ℕ) → n < 2 ^ 128 → e + length (decimal n) ≤ 21 → n * 10 ^ (e + 1) < 2 ^ 128
times_ten_small n e few l =
    let room : length (decimal n) + (e + 1) ≤ 22 = omega arith in
    let most : 10 ^ (length (decimal n) + (e + 1)) ≤ 10 ^ 22 = pow-le-pow_right (omega arith) room in
    let times : n * 10 ^ (e + 1) < 10 ^ length (decimal n) * 10 ^ (e + 1) =
    mul-lt-mul_of_pos_right (below_power n few) (power_pos 10 (e + 1) (omega arith)) in
    omega (arith, pow-add 10 (length (decimal n)) (e + 1), most, times)
