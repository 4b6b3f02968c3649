-- The numbers of digits, some digits after others.
use Rattle.std.proofs.Common.{◌≡◌, ℕ, ◌+◌, ◌*◌, ◌^◌, sym, ap, ◌∙◌, arith, List, [], ◌∷◌, ◌++◌, length}
use Rattle.std.proofs.lemmas.Nat.{pow-add}
use Rattle.small_formats.specs.packing.Packed.{number_of_digits}

number_append : (bits : ℕ) (xs ys : List ℕ) → number_of_digits bits (xs ++ ys)
    ≡ number_of_digits bits xs + 2 ^ (bits * length xs) * number_of_digits bits ys
number_append bits [] ys =
    let none : bits * 0 ≡ 0 = omega arith in
    let one : 2 ^ (bits * 0) ≡ 1 = ap (λ (n : ℕ). 2 ^ n) none in
    rw one (omega arith)
number_append bits (x ∷ xs) ys =
    let a : ℕ = number_of_digits bits xs in
    let b : ℕ = number_of_digits bits ys in
    let places : bits * length (x ∷ xs) ≡ bits + bits * length xs = omega arith in
    let power : 2 ^ (bits * length (x ∷ xs)) ≡ 2 ^ bits * 2 ^ (bits * length xs) =
    ap (λ (n : ℕ). 2 ^ n) places ∙ pow-add 2 bits (bits * length xs) in
    ap (λ (n : ℕ). x + 2 ^ bits * n) (number_append bits xs ys)
    ∙ (let z : x + 2 ^ bits * (a + 2 ^ (bits * length xs) * b)
    ≡ x + 2 ^ bits * a + 2 ^ bits * 2 ^ (bits * length xs) * b = omega arith in z)
    ∙ ap (λ (n : ℕ). x + 2 ^ bits * a + n * b) (sym power)

-- digits after as many bits in both
pub groups_more : (bits : ℕ) (front bytes codes group : List ℕ) → 8 * length front ≡ bits * length codes
    → number_of_digits 8 front ≡ number_of_digits bits codes → number_of_digits 8 bytes ≡ number_of_digits bits group
    → number_of_digits 8 (front ++ bytes) ≡ number_of_digits bits (codes ++ group)
groups_more bits front bytes codes group places so_far here =
    number_append 8 front bytes ∙ ap (λ (n : ℕ). n + 2 ^ (8 * length front) * number_of_digits 8 bytes) so_far
    ∙ ap (λ (n : ℕ). number_of_digits bits codes + 2 ^ n * number_of_digits 8 bytes) places
    ∙ ap (λ (n : ℕ). number_of_digits bits codes + 2 ^ (bits * length codes) * n) here
    ∙ sym (number_append bits codes group)
