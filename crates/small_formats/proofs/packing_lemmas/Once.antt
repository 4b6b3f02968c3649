-- Codes are packed in one way.
use Rattle.std.proofs.{Math.Nat.eq_of_mul-eq-mul_right, Math.Nat.mul-le-mul_left, lemmas.Bool.cases_lt}
use Rattle.std.proofs.Common.{◌≡◌, ℕ, ◌+◌, ◌*◌, ◌^◌, ◌<◌, ◌≤◌, refl, sym, ap, ◌∙◌, ⊎_elim, arith, List, [], ◌∷◌, length}
use Rattle.std.specs.Prelude.{All}
use Rattle.small_formats.specs.packing.{Laws.ArePackedOnce, Packed.number_of_digits}
use Rattle.small_formats.proofs.packing_lemmas.All.{all_first, all_rest}

-- the lowest digit and the others are those of one number
apart : (base x y a b : ℕ) → x < base → y < base → x + base * a ≡ y + base * b → (x ≡ y) × (a ≡ b)
apart base x y a b l k e =
    ⊎_elim
    (λ (q : a < b).
    let more : base * (a + 1) ≤ base * b = mul-le-mul_left base (omega (arith, q)) in
    absurd (omega (arith, e, l, more)))
    (λ (q : b ≤ a).
    ⊎_elim
    (λ (r : b < a).
    let more : base * (b + 1) ≤ base * a = mul-le-mul_left base (omega (arith, r)) in
    absurd (omega (arith, e, k, more)))
    (λ (r : a ≤ b).
    let same : a ≡ b = omega (arith, q, r) in
    let times : base * a ≡ base * b = ap (λ (n : ℕ). base * n) same in
    (omega (arith, e, times), same))
    (cases_lt b a))
    (cases_lt a b)

digits_once : (bits : ℕ) (xs ys : List ℕ) → length xs ≡ length ys → All (λ x. x < 2 ^ bits) xs
    → All (λ y. y < 2 ^ bits) ys → number_of_digits bits xs ≡ number_of_digits bits ys → xs ≡ ys
digits_once bits [] [] size p q e = refl
digits_once bits [] (y ∷ ys) size p q e = absurd (omega (arith, size))
digits_once bits (x ∷ xs) [] size p q e = absurd (omega (arith, size))
digits_once bits (x ∷ xs) (y ∷ ys) size p q e =
    let fits = λ (n : ℕ). n < 2 ^ bits in
    let both = apart (2 ^ bits) x y (number_of_digits bits xs) (number_of_digits bits ys) (all_first fits x xs p)
    (all_first fits y ys q) e in
    ap (λ (n : ℕ). n ∷ xs) both.0 ∙ ap (λ (zs : List ℕ). y ∷ zs)
    (digits_once bits xs ys (omega (arith, size)) (all_rest fits x xs p) (all_rest fits y ys q) both.1)

pub packed_once : ArePackedOnce
packed_once = record {
  bytes = λ bits codes bytes others p q x y.
      digits_once 8 bytes others (omega (arith, x.same_bits, y.same_bits)) p q (x.same_number ∙ sym y.same_number);
  codes = λ bits codes others bytes some x y.
      let times : length codes * bits ≡ length others * bits = omega (arith, x.same_bits, y.same_bits) in
      digits_once bits codes others (eq_of_mul-eq-mul_right bits some (length codes) (length others) times) x.codes_fit
      y.codes_fit (sym x.same_number ∙ y.same_number);
}
