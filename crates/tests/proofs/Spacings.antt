-- A spacing that is doubled until the magnitude is less than 2 ^ precision spacings.
use Rattle.std.proofs.Common.{◌≡◌, ℕ, ◌+◌, ◌-◌, ◌*◌, ◌^◌, ◌<◌, ◌≤◌, ◌⊎◌, inl, inr, sym, ap, ◌∙◌, subst, arith}
use Rattle.std.proofs.{Math.Nat.mul-le-mul_right, Math.Nat.pow-le-pow_right, lemmas.Nat.pow_pos, lemmas.Nat.pow-add}
use Rattle.apfloat_model.proofs.general.Powers.{twice_half, two_pos}
use Rattle.tests.specs.Plain.{IsSmall, IsSpacing}

-- the magnitude is at least half of 2 ^ precision spacings, unless this is the first spacing
pub record IsReached (precision amount parts spacing : ℕ) : Type 0 where
  pub place : ℕ
  pub is : spacing ≡ 2 ^ place
  pub many : (place ≡ 0) ⊎ (2 ^ (precision - 1) * (parts * spacing) ≤ amount)

-- a spacing is not zero
pub spacing_some : (precision amount parts spacing : ℕ) → IsReached precision amount parts spacing → 0 < spacing
spacing_some precision amount parts spacing r = subst (λ (x : ℕ). 0 < x) (sym r.is) (pow_pos r.place)

-- so many spacings fit in 128 bits
spacings_fit : (precision amount parts spacing place : ℕ) → IsSmall precision amount parts → spacing ≡ 2 ^ place
    → (place ≡ 0) ⊎ (2 ^ (precision - 1) * (parts * spacing) ≤ amount) → 2 ^ precision * (parts * spacing) < 2 ^ 128
spacings_fit precision amount parts spacing place small is (inl first) =
    let one : spacing ≡ 1 = is ∙ ap (λ (n : ℕ). 2 ^ n) first in
    let all : 2 ^ precision * (parts * spacing) ≡ 2 ^ precision * (parts * 1) =
    ap (λ (n : ℕ). 2 ^ precision * (parts * n)) one in
    let alone : 2 ^ precision * (parts * 1) ≡ 2 ^ precision * parts = ap (λ (n : ℕ). 2 ^ precision * n) (omega arith) in
    let few : 2 ^ precision ≤ 2 ^ 60 = pow-le-pow_right two_pos small.few_digits in
    let most : 2 ^ precision * parts ≤ 2 ^ 60 * parts = mul-le-mul_right parts few in
    omega (arith, all, alone, most, small.parts_bound)
spacings_fit precision amount parts spacing place small is (inr many) =
    let t : 2 * 2 ^ (precision - 1) ≡ 2 ^ precision = twice_half precision (omega (arith, small.some_digits)) in
    let k : 2 * 2 ^ (precision - 1) * (parts * spacing) ≡ 2 ^ precision * (parts * spacing) =
    ap (λ (x : ℕ). x * (parts * spacing)) t in
    omega (arith, k, many, small.amount_bound)

pub reached_fits : (precision amount parts spacing : ℕ) → IsSmall precision amount parts
    → IsReached precision amount parts spacing → 2 ^ precision * (parts * spacing) < 2 ^ 128
reached_fits precision amount parts spacing small r =
    spacings_fit precision amount parts spacing r.place small r.is r.many

-- if the magnitude is 2 ^ precision spacings or more, it is at least half as many spacings of twice the size
pub doubled : (precision amount parts spacing : ℕ) → 0 < precision → IsReached precision amount parts spacing
    → 2 ^ precision * (parts * spacing) ≤ amount → IsReached precision amount parts (spacing * 2)
doubled precision amount parts spacing p r m =
    let t : 2 * 2 ^ (precision - 1) ≡ 2 ^ precision = twice_half precision p in
    let e : 2 ^ (r.place + 1) ≡ 2 ^ r.place * 2 = pow-add 2 r.place 1 in
    let s : spacing ≡ 2 ^ r.place = r.is in
    let k : 2 * 2 ^ (precision - 1) * (parts * spacing) ≡ 2 ^ precision * (parts * spacing) =
    ap (λ (x : ℕ). x * (parts * spacing)) t in
    record { place = r.place + 1; is = omega arith; many = inr (omega arith) }

-- a spacing at which the magnitude is 2 ^ precision spacings or more is below the amount
pub spacing_below : (precision amount parts spacing : ℕ) → 0 < precision → 0 < parts
    → IsReached precision amount parts spacing → 2 ^ precision * (parts * spacing) ≤ amount → spacing < amount
spacing_below precision amount parts spacing p h r m =
    let t : 2 * 2 ^ (precision - 1) ≡ 2 ^ precision = twice_half precision p in
    let q : 1 ≤ 2 ^ (precision - 1) = pow_pos (precision - 1) in
    let two : 2 ≤ 2 ^ precision = omega arith in
    let k : 2 * (parts * spacing) ≤ 2 ^ precision * (parts * spacing) = mul-le-mul_right (parts * spacing) two in
    let j : 1 * spacing ≤ parts * spacing = mul-le-mul_right spacing h in
    let s : 0 < spacing = spacing_some precision amount parts spacing r in
    omega arith

-- a spacing at which it is less is the last one
pub last : (precision amount parts spacing : ℕ) → IsReached precision amount parts spacing
    → amount < 2 ^ precision * (parts * spacing) → IsSpacing precision amount parts spacing
last precision amount parts spacing r l = record { place = r.place; is = r.is; few = l; many = r.many }
