-- What the upper sixteen bits of a single, rounded to odd, keep of it.
use Rattle.std.proofs.Common.{◌≡◌, ℕ, ◌+◌, ◌-◌, ◌*◌, ◌/◌, ◌%◌, ◌^◌, ◌<◌, ◌≤◌, ◌⊎◌, min, eqb, sym, ap, ◌∙◌, subst, inl}
use Rattle.std.proofs.Common.{inr, ⊎_elim, arith, ℤ, pos, negsuc, ◌+ℤ◌, ◌-ℤ◌, ◌≤ℤ◌}
use Rattle.std.proofs.Math.Nat.{min-eq_left, min-eq_right}
use Rattle.std.proofs.lemmas.{Int.ints, Nat.pow_pos, Bool.cases_eq, Bool.cases_lt, Bool.eq-eqb, Bool.ne_eqb}
use Rattle.apfloat_model.specs.{formats.Format.Format, rounding.RoundingToOdd.odd_quotient}
use Rattle.fast_bits.specs.lanes.Scaled.{IsScaled}
use Rattle.fast_bits.proofs.lanes_lemmas.{Cuts.exact_odd, Cuts.inexact_odd, Reached.zero_scaled}
use Rattle.fast_bits.proofs.lanes_lemmas.{ScaledNumbers.scaled_stands, Singles.place_of, Singles.significand_of}

-- the significand of the upper half of a magnitude
abbrev pub short_significand : ℕ → ℕ
short_significand a = a % 2 ^ 7 + min (a / 2 ^ 7) 1 * 2 ^ 7

pub record IsHalf (h x : ℕ) : Type 0 where
  pub sign : h / 2 ^ 15 ≡ x / 2 ^ 31
  pub exponent : h % 2 ^ 15 / 2 ^ 7 ≡ x % 2 ^ 31 / 2 ^ 23
  pub significand : short_significand (h % 2 ^ 15) ≡ odd_quotient (significand_of (x % 2 ^ 31)) (2 ^ 16)
  pub zero : eqb (h % 2 ^ 15) 0 ≡ eqb (x % 2 ^ 31) 0

-- both are zero, or neither
both_zero : (a b : ℕ) → (a ≡ 0 → b ≡ 0) → (b ≡ 0 → a ≡ 0) → eqb a 0 ≡ eqb b 0
both_zero a b forth back =
    ⊎_elim (λ (z : a ≡ 0). eq-eqb a 0 z ∙ sym (eq-eqb b 0 (forth z)))
    (λ (n : a ≡ 0 → ⊥). ne_eqb a 0 n ∙ sym (ne_eqb b 0 (λ z. n (back z))))
    (cases_eq a 0)

pub half_is : (x : ℕ) → x < 2 ^ 32 → IsHalf (odd_quotient x (2 ^ 16)) x
half_is x word =
    let h = odd_quotient x (2 ^ 16) in
    let a = x % 2 ^ 31 in
    let m = significand_of (x % 2 ^ 31) in
    let one = min (x % 2 ^ 31 / 2 ^ 23) 1 in
    let sign : x / 2 ^ 31 ≡ x / 2 ^ 16 / 2 ^ 15 = omega arith in
    let exponent : x % 2 ^ 31 / 2 ^ 23 ≡ x / 2 ^ 16 % 2 ^ 15 / 2 ^ 7 = omega arith in
    let quotient : significand_of (x % 2 ^ 31) / 2 ^ 16 ≡ x / 2 ^ 16 % 2 ^ 7 + min (x % 2 ^ 31 / 2 ^ 23) 1 * 2 ^ 7 =
    omega arith in
    let rest : significand_of (x % 2 ^ 31) % 2 ^ 16 ≡ x % 2 ^ 16 = omega arith in
    let whole : x % 2 ^ 31 ≡ x / 2 ^ 16 % 2 ^ 15 * 2 ^ 16 + x % 2 ^ 16 = omega arith in
    ⊎_elim {C = IsHalf h x}
    (λ (none : x % 2 ^ 16 ≡ 0).
    let is : h ≡ x / 2 ^ 16 = exact_odd (x / 2 ^ 16) (x % 2 ^ 16) none in
    let odd : odd_quotient m (2 ^ 16) ≡ m / 2 ^ 16 = exact_odd (m / 2 ^ 16) (m % 2 ^ 16) (rest ∙ none) in
    let same : h % 2 ^ 15 / 2 ^ 7 ≡ x % 2 ^ 31 / 2 ^ 23 = omega (arith, is, exponent) in
    let ones : min (h % 2 ^ 15 / 2 ^ 7) 1 ≡ one = ap (λ (n : ℕ). min n 1) same in
    record {
      sign = omega (arith, is, sign);
      exponent = same;
      significand = omega (arith, is, odd, quotient, ones);
      zero = both_zero (h % 2 ^ 15) a (λ z. omega (arith, z, is, none, whole)) (λ z. omega (arith, z, is, whole));
    })
    (λ (some : x % 2 ^ 16 ≡ 0 → ⊥).
    let is : h ≡ x / 2 ^ 16 + 1 - x / 2 ^ 16 % 2 = inexact_odd (x / 2 ^ 16) (x % 2 ^ 16) some in
    let odd : odd_quotient m (2 ^ 16) ≡ m / 2 ^ 16 + 1 - m / 2 ^ 16 % 2 =
    inexact_odd (m / 2 ^ 16) (m % 2 ^ 16) (λ e. some (sym rest ∙ e)) in
    let same : h % 2 ^ 15 / 2 ^ 7 ≡ x % 2 ^ 31 / 2 ^ 23 = omega (arith, is, exponent) in
    let ones : min (h % 2 ^ 15 / 2 ^ 7) 1 ≡ one = ap (λ (n : ℕ). min n 1) same in
    record {
      sign = omega (arith, is, sign);
      exponent = same;
      significand = omega (arith, is, odd, quotient, ones);
      zero = both_zero (h % 2 ^ 15) a (λ z. absurd (omega (arith, z, is)))
          (λ z. absurd (some (omega (arith, z, whole))));
    })
    (cases_eq (x % 2 ^ 16) 0)

-- a half is that of the single that ends in zeros
pub half_alone : (h : ℕ) → odd_quotient (h * 2 ^ 16) (2 ^ 16) ≡ h
half_alone h =
    let quotient : h * 2 ^ 16 / 2 ^ 16 ≡ h = omega arith in
    exact_odd (h * 2 ^ 16 / 2 ^ 16) (h * 2 ^ 16 % 2 ^ 16) (omega arith) ∙ quotient

-- ---- scaled

-- the places that a significand is moved up, counted from the first number that is not
up_is : (n first : ℕ) → 1 ≤ first → 7 - (first + 6 - (n - 1)) ≡ min (n - first) 7
up_is n first some = omega (arith, some)

-- a significand, by its integer bit
significand_fits : (a : ℕ) → (significand_of a < 2 ^ 24) × ((place_of a ≡ 0) ⊎ (2 ^ 23 ≤ significand_of a))
significand_fits a =
    ⊎_elim {C = (significand_of a < 2 ^ 24) × ((place_of a ≡ 0) ⊎ (2 ^ 23 ≤ significand_of a))}
    (λ (l : a / 2 ^ 23 < 1).
    let le : a / 2 ^ 23 ≤ 1 = omega (arith, l) in
    let e = min-eq_left le in (omega (arith, e, l), inl (omega (arith, l))))
    (λ (l : 1 ≤ a / 2 ^ 23). let e = min-eq_right l in (omega (arith, e), inr (omega (arith, e))))
    (cases_lt (a / 2 ^ 23) 1)

pub half_scaled : (f : Format) (min_exp : ℤ) (x h first : ℕ) → 3 ≤ f.precision → f.precision ≤ 6
    → pos f.scale ≡ pos (f.precision - 1) -ℤ min_exp → negsuc 118 ≤ℤ min_exp
    → pos first ≡ (min_exp +ℤ pos 120) → IsHalf h x → IsScaled f.precision (15 - f.precision)
    (short_significand (h % 2 ^ 15) * 2 ^ min (h % 2 ^ 15 / 2 ^ 7 - first) 7
    + (h % 2 ^ 15 / 2 ^ 7 - (first + 7)) * 2 ^ 14)
    (significand_of (x % 2 ^ 31) * 2 ^ place_of (x % 2 ^ 31) * 2 ^ f.scale) (2 ^ 149)
half_scaled f min_exp x h first precise digits scale least first_is it =
    let p = f.precision in
    let a = x % 2 ^ 31 in
    let m = significand_of a in
    let e = place_of a in
    let some_first : 1 ≤ first = omega (arith, ints, least, first_is) in
    let scales : 149 ≡ f.scale + (16 + (7 - p + 1)) + (first + 6) =
    omega (arith, ints, precise, digits, scale, first_is) in
    let seven : 15 - p - (7 - p + 1) ≡ 7 = omega (arith, digits) in
    let up : 15 - p - (7 - p + 1) - (first + 6 - e) ≡ min (h % 2 ^ 15 / 2 ^ 7 - first) 7 =
    ap (λ (n : ℕ). n - (first + 6 - e)) seven ∙ up_is (x % 2 ^ 31 / 2 ^ 23) first some_first
    ∙ ap (λ (n : ℕ). min (n - first) 7) (sym it.exponent) in
    let exponent = it.exponent in
    let above : e - (first + 6) ≡ h % 2 ^ 15 / 2 ^ 7 - (first + 7) = omega (arith, exponent) in
    let unit : p - 1 + (15 - p) ≡ 14 = omega (arith, precise, digits) in
    let all : odd_quotient m (2 ^ 16) * 2 ^ (15 - p - (7 - p + 1) - (first + 6 - e))
    + (e - (first + 6)) * 2 ^ (p - 1 + (15 - p))
    ≡ short_significand (h % 2 ^ 15) * 2 ^ min (h % 2 ^ 15 / 2 ^ 7 - first) 7
    + (h % 2 ^ 15 / 2 ^ 7 - (first + 7)) * 2 ^ 14 = (λ i. sym it.significand i * 2 ^ up i + above i * 2 ^ unit i) in
    let cut : 24 ≡ p + (7 - p) + 1 + 16 = omega (arith, digits) in
    let cut_full : 23 ≡ p + (7 - p) + 16 = omega (arith, digits) in
    let fits = significand_fits a in
    subst (λ (n : ℕ). IsScaled p (15 - p) n (m * 2 ^ e * 2 ^ f.scale) (2 ^ 149)) all
    (⊎_elim {C = IsScaled p (15 - p) (odd_quotient m (2 ^ 16) * 2 ^ (15 - p - (7 - p + 1) - (first + 6 - e))
    + (e - (first + 6)) * 2 ^ (p - 1 + (15 - p))) (m * 2 ^ e * 2 ^ f.scale) (2 ^ 149)}
    (λ (z : m < 1).
    let none : 0 ≡ m = omega (arith, z) in
    let last : e ≡ 0 = ⊎_elim (λ (l : e ≡ 0). l) (λ (l : 2 ^ 23 ≤ m). absurd (omega (arith, l, z))) fits.1 in
    let odd : 0 ≡ odd_quotient m (2 ^ 16) = ap (λ (n : ℕ). odd_quotient n (2 ^ 16)) none in
    let place : 0 ≡ e - (first + 6) = omega (arith, last) in
    let digits_none : 0 ≡ odd_quotient m (2 ^ 16) * 2 ^ (15 - p - (7 - p + 1) - (first + 6 - e))
    + (e - (first + 6)) * 2 ^ (p - 1 + (15 - p)) =
    (let zero : 0 ≡ 0 * 2 ^ (15 - p - (7 - p + 1) - (first + 6 - e))
    + 0 * 2 ^ (p - 1 + (15 - p)) = omega arith in zero)
    ∙ (λ i. odd i * 2 ^ (15 - p - (7 - p + 1) - (first + 6 - e)) + place i * 2 ^ (p - 1 + (15 - p))) in
    let amount : 0 ≡ m * 2 ^ e * 2 ^ f.scale =
    (let zero : 0 ≡ 0 * 2 ^ e * 2 ^ f.scale = omega arith in zero)
    ∙ ap (λ (n : ℕ). n * 2 ^ e * 2 ^ f.scale) none in
    subst (λ (n : ℕ). IsScaled p (15 - p) n (m * 2 ^ e * 2 ^ f.scale) (2 ^ 149)) digits_none
    (subst (λ (n : ℕ). IsScaled p (15 - p) 0 n (2 ^ 149)) amount
    (zero_scaled p (15 - p) (2 ^ 149) (omega (arith, precise)) (pow_pos 149))))
    (λ (some : 1 ≤ m).
    scaled_stands p (7 - p) 16 (15 - p) (first + 6) e f.scale 149 m precise (omega (arith, digits))
    (omega (arith, digits)) scales some (subst (λ (n : ℕ). m < 2 ^ n) cut fits.0)
    (subst (λ (n : ℕ). (e ≡ 0) ⊎ (2 ^ n ≤ m)) cut_full fits.1))
    (cases_lt m 1))

-- what has such a half is a word
pub word_below : (x : ℕ) → odd_quotient x (2 ^ 16) < 2 ^ 16 → x < 2 ^ 32
word_below x below =
    ⊎_elim {C = x < 2 ^ 32}
    (λ (none : x % 2 ^ 16 ≡ 0).
    let is : odd_quotient x (2 ^ 16) ≡ x / 2 ^ 16 = exact_odd (x / 2 ^ 16) (x % 2 ^ 16) none in
    omega (arith, is, below))
    (λ (some : x % 2 ^ 16 ≡ 0 → ⊥).
    let is : odd_quotient x (2 ^ 16) ≡ x / 2 ^ 16 + 1 - x / 2 ^ 16 % 2 = inexact_odd (x / 2 ^ 16) (x % 2 ^ 16) some in
    omega (arith, is, below))
    (cases_eq (x % 2 ^ 16) 0)
