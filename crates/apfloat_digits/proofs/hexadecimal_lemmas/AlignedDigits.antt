-- The digits of a value with the first one at a given place.
use Rattle.std.proofs.Common.{◌≡◌, ◌⊎◌, ℕ, ◌+◌, ◌-◌, ◌*◌, ◌/◌, ◌%◌, ◌^◌, ◌<◌}
use Rattle.std.proofs.Common.{◌≤◌, refl, sym, ap, ◌∙◌, subst, arith, ℤ, pos, ◌+ℤ◌}
use Rattle.std.proofs.{Math.Nat.lt_of_mul-lt-mul_right, lemmas.Int.ints, lemmas.Nat.pow-add}
use Rattle.apfloat_model.specs.{arithmetic.Exact.up, arithmetic.Exact.down, formats.Format.Format}
use Rattle.apfloat_model.proofs.arithmetic.Significands.{lengthened_fits, lengthened_full, significand_lengthened}
use Rattle.apfloat_digits.specs.hexadecimal.HexTexts.{last_place, IsNumberOf, IsShortestNumber}
use Rattle.apfloat_digits.proofs.hexadecimal_lemmas.Numbers.{moved, sixteens}

-- a value with 125 binary digits, the first of which has that exponent
pub record IsWide (f : Format) (q digits : ℕ) (first : ℤ) : Type 0 where
  pub low : 2 ^ 124 ≤ digits
  pub high : digits < 2 ^ 125
  pub number : IsNumberOf f q digits 31 first

pub widened : (f : Format) (q s digits : ℕ) (exponent first : ℤ) → 3 ≤ f.precision → f.precision ≤ 125
    → s < 2 ^ f.precision → 2 ^ (f.precision - 1) ≤ s
    → q * 2 ^ down (exponent +ℤ pos f.scale) ≡ s * 2 ^ up (exponent +ℤ pos f.scale)
    → first ≡ exponent +ℤ pos (f.precision - 1) → digits ≡ s * 2 ^ (125 - f.precision) → IsWide f q digits first
widened f q s digits exponent first some few fits full number is more =
    let p = f.precision in
    let last = last_place f 31 first in
    let long : q * 2 ^ down last ≡ s * 2 ^ (125 - p) * 2 ^ up last =
    significand_lengthened q s (125 - p) (exponent +ℤ pos f.scale) last number (omega (arith, ints, is, some, few)) in
    record {
      low = subst (λ (n : ℕ). 2 ^ 124 ≤ n) (sym more) (lengthened_full p s 125 (omega (arith, some)) few full);
      high = subst (λ (n : ℕ). n < 2 ^ 125) (sym more) (lengthened_fits p s 125 few fits);
      number = subst (λ (n : ℕ). q * 2 ^ down last ≡ n * 2 ^ up last) (sym more) long;
    }

-- ---- digits after the dot

-- digits and zeros after them
pub record IsShortening (fraction places digits : ℕ) : Type 0 where
  pub few : places ≤ 31
  pub same : fraction ≡ digits * 16 ^ (31 - places)

pub shortening_goes_on : (fraction places digits : ℕ) → 0 < places → digits % 16 ≡ 0
    → IsShortening fraction places digits → IsShortening fraction (places - 1) (digits / 16)
shortening_goes_on fraction places digits some none x =
    let few = x.few in
    let e : 31 - (places - 1) ≡ 1 + (31 - places) = omega (arith, some, few) in
    let power : 16 ^ (31 - (places - 1)) ≡ 16 * 16 ^ (31 - places) =
    ap (λ (n : ℕ). 16 ^ n) e ∙ pow-add 16 1 (31 - places) in
    let whole : digits ≡ digits / 16 * 16 = omega (arith, none) in
    record {
      few = omega (arith, few);
      same = x.same ∙ ap (λ (n : ℕ). n * 16 ^ (31 - places)) whole
          ∙ rw power (outer (digits / 16) (16 ^ (31 - places)));
    }
  where
    outer : (d p : ℕ) → d * 16 * p ≡ d * (16 * p)
    outer d p = omega arith

pub shortening_fits : (fraction places digits : ℕ) → fraction < 2 ^ 124 → IsShortening fraction places digits
    → digits < 16 ^ places
shortening_fits fraction places digits below x =
    let e : places + (31 - places) ≡ 31 = omega (arith, x.few) in
    let all : 16 ^ places * 16 ^ (31 - places) ≡ 16 ^ 31 =
    sym (pow-add 16 places (31 - places)) ∙ ap (λ (n : ℕ). 16 ^ n) e in
    lt_of_mul-lt-mul_right (16 ^ (31 - places)) (less fraction digits _ _ _ _ below x.same all refl)
  where
    less : (n d p k a b : ℕ) → n < b → n ≡ d * k → p * k ≡ a → a ≡ b → d * k < p * k
    less n d p k a b l e g h = omega (arith, l, e, g, h)

-- a value without the zeros at its end
pub shortest : (f : Format) (q digits fraction places short : ℕ) (first : ℤ) → IsWide f q digits first
    → fraction ≡ digits - 2 ^ 124 → places ≤ 31 → short < 16 ^ places → fraction ≡ short * 16 ^ (31 - places)
    → (places ≡ 0) ⊎ (short % 16 ≡ 0 → ⊥) → IsShortestNumber f q places short first
shortest f q digits fraction places short first wide is few fits same last =
    let z = last_place f 31 first in
    let w = last_place f places first in
    let k = 4 * (31 - places) in
    let power : 16 ^ places * 2 ^ k ≡ 2 ^ 124 = ap (λ (n : ℕ). n * 2 ^ k) (sixteens places)
    ∙ sym (pow-add 2 (4 * places) k) ∙ ap (λ (n : ℕ). 2 ^ n) (let e : 4 * places + k ≡ 124 = omega (arith, few) in e) in
    let zeros : 16 ^ (31 - places) ≡ 2 ^ k = sixteens (31 - places) in
    let whole : digits ≡ (16 ^ places + short) * 2 ^ k =
    parts digits fraction (2 ^ 124) short (16 ^ (31 - places)) (2 ^ k) (16 ^ places) wide.low is same zeros power in
    record {
      fits = fits;
      last = last;
      number = moved q digits (16 ^ places + short) (down z) (up z) (down w) (up w) 0 k wide.number
          (level digits (16 ^ places + short) (2 ^ k) whole) (omega (arith, ints, few));
    }
  where
    parts : (digits fraction top short tail k p : ℕ) → top ≤ digits → fraction ≡ digits - top
        → fraction ≡ short * tail → tail ≡ k → p * k ≡ top → digits ≡ (p + short) * k
    parts digits fraction top short tail k p l e s z t =
        let m : fraction ≡ short * k = s ∙ ap (λ (n : ℕ). short * n) z in
        omega (arith, l, e, m, t)

    level : (digits n k : ℕ) → digits ≡ n * k → digits * 2 ^ 0 ≡ n * k
    level digits n k e = omega (arith, e)
