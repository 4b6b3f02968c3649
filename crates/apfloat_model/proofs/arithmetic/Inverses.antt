-- The exponent, the fraction and the exact inverse of a datum are determined.
use Rattle.std.proofs.Common.{◌≡◌, ℕ, ◌+◌, ◌-◌, ◌*◌, ◌^◌, ◌≤◌, ◌<◌, Bool, sym, ap, ◌∙◌, ⊎_elim, arith}
use Rattle.std.proofs.Math.Nat.{mul-le-mul_right, mul-le-mul_left, pow-le-pow_right, eq_of_mul-eq-mul_right}
use Rattle.std.proofs.lemmas.{Nat.pow_pos, Nat.pow-add, Bool.cases_lt, Int.ints}
use Rattle.std.specs.Prelude.{ℤ, pos, ◌-ℤ◌}
use Rattle.apfloat_model.specs.formats.{Format.Format, Datum.Datum, Datum.finite}
use Rattle.apfloat_model.specs.arithmetic.Exact.{up, down}
use Rattle.apfloat_model.specs.arithmetic.Exponents.{IsLogarithm, IsFraction, AreInverse}
use Rattle.apfloat_model.proofs.general.Powers.{exponent_between, two_pos}

-- a number of quanta has at most one logarithm
pub logarithm_once : (format : Format) (n : ℕ) (d e : ℤ) → IsLogarithm format n d → IsLogarithm format n e → d ≡ e
logarithm_once format n d e x y =
    let a : x.place ≤ y.place = exponent_between n x.place y.place x.low y.high in
    let b : y.place ≤ x.place = exponent_between n y.place x.place y.low x.high in
    let c : x.place ≡ y.place = omega arith in
    x.is ∙ ap (λ (k : ℕ). pos k -ℤ pos format.scale) c ∙ sym y.is

-- if a fraction times 2 ^ a equals another times 2 ^ b, b is at most a
not_less : (half p q a b : ℕ) → half ≤ q → p < 2 * half → p * 2 ^ a ≡ q * 2 ^ b → b ≤ a
not_less half p q a b l h e =
    ⊎_elim
    (λ (c : a < b).
    let k : 2 ^ (a + 1) ≤ 2 ^ b = pow-le-pow_right two_pos (omega arith) in
    let w : 2 ^ (a + 1) ≡ 2 ^ a * 2 = pow-add 2 a 1 in
    let m : q * 2 ^ (a + 1) ≤ q * 2 ^ b = mul-le-mul_left q k in
    let r : half * 2 ^ (a + 1) ≤ q * 2 ^ (a + 1) = mul-le-mul_right (2 ^ (a + 1)) l in
    let t : (p + 1) * 2 ^ a ≤ 2 * half * 2 ^ a = mul-le-mul_right (2 ^ a) (omega arith) in
    let s : half * 2 ^ (a + 1) ≡ half * (2 ^ a * 2) = ap (λ (x : ℕ). half * x) w in
    let o : 0 < 2 ^ a = pow_pos a in
    absurd (omega arith))
    (λ (c : b ≤ a). c)
    (cases_lt a b)

-- two equations for one number, combined
balanced : (n p q ue de ud dd : ℕ) → n * 2 ^ de ≡ p * 2 ^ ue → n * 2 ^ dd ≡ q * 2 ^ ud
    → p * 2 ^ (ue + dd) ≡ q * 2 ^ (ud + de)
balanced n p q ue de ud dd x y =
    let a : p * 2 ^ (ue + dd) ≡ p * (2 ^ ue * 2 ^ dd) = ap (λ (z : ℕ). p * z) (pow-add 2 ue dd) in
    let b : q * 2 ^ (ud + de) ≡ q * (2 ^ ud * 2 ^ de) = ap (λ (z : ℕ). q * z) (pow-add 2 ud de) in
    let c : n * 2 ^ de * 2 ^ dd ≡ p * 2 ^ ue * 2 ^ dd = ap (λ (z : ℕ). z * 2 ^ dd) x in
    let d : n * 2 ^ dd * 2 ^ de ≡ q * 2 ^ ud * 2 ^ de = ap (λ (z : ℕ). z * 2 ^ de) y in
    omega arith

-- a number of quanta has at most one fraction in [1/2, 1) and one exponent
pub fraction_once : (format : Format) (negative : Bool) (n : ℕ) (value other : Datum) (d e : ℤ) → 0 < format.scale
    → IsFraction format negative n value d → IsFraction format negative n other e → (value ≡ other) × (d ≡ e)
fraction_once format negative n v w d e s x y =
    let t : 2 ^ (format.scale - 1 + 1) ≡ 2 ^ (format.scale - 1) * 2 = pow-add 2 (format.scale - 1) 1 in
    let u : format.scale - 1 + 1 ≡ format.scale = omega arith in
    let u' : 2 ^ (format.scale - 1 + 1) ≡ 2 ^ format.scale = ap (λ (z : ℕ). 2 ^ z) u in
    let h : x.fraction < 2 * 2 ^ (format.scale - 1) = let k : x.fraction < 2 ^ format.scale = x.high in omega arith in
    let h' : y.fraction < 2 * 2 ^ (format.scale - 1) = let k : y.fraction < 2 ^ format.scale = y.high in omega arith in
    let b : x.fraction * 2 ^ (up d + down e) ≡ y.fraction * 2 ^ (up e + down d) =
    balanced n x.fraction y.fraction (up d) (down d) (up e) (down e) x.same y.same in
    let l : up e + down d ≤ up d + down e =
    not_less (2 ^ (format.scale - 1)) x.fraction y.fraction (up d + down e) (up e + down d) y.low h b in
    let l' : up d + down e ≤ up e + down d =
    not_less (2 ^ (format.scale - 1)) y.fraction x.fraction (up e + down d) (up d + down e) x.low h' (sym b) in
    let q : up d + down e ≡ up e + down d = omega arith in
    let g : x.fraction * 2 ^ (up e + down d) ≡ y.fraction * 2 ^ (up e + down d) =
    ap (λ (z : ℕ). x.fraction * 2 ^ z) (sym q) ∙ b in
    let p : x.fraction ≡ y.fraction =
    eq_of_mul-eq-mul_right (2 ^ (up e + down d)) (pow_pos (up e + down d)) x.fraction y.fraction g in
    (x.is ∙ ap (λ (z : ℕ). finite negative z) p ∙ sym y.is, omega (arith, ints))

-- a number of quanta has at most one exact inverse
pub inverse_once : (format : Format) (n p q : ℕ) → 0 < n → AreInverse format n p → AreInverse format n q → p ≡ q
inverse_once format n p q h x y =
    let e : n * p ≡ n * q = x.product ∙ sym y.product in
    let g : p * n ≡ q * n = omega arith in
    eq_of_mul-eq-mul_right n h p q g
