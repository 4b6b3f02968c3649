-- The number of digits of a value, from the places of its first and its last one.
use Rattle.std.proofs.Common.{◌≡◌, ℕ, ◌+◌, ◌-◌, ◌*◌, ◌/◌, ◌%◌, ◌^◌, ◌<◌, ◌≤◌}
use Rattle.std.proofs.Common.{Bool, true, eqb, sym, ap, ◌∙◌, subst, ⊎_elim, arith, zero, suc, ℤ}
use Rattle.std.proofs.Math.Nat.{le_of_mul-le-mul_right, lt_of_mul-lt-mul_right, mul-le-mul_right}
use Rattle.std.proofs.Math.Nat.{mul-lt-mul_of_pos_right, mul-pos, mul-mod_left, mul-div_cancel}
use Rattle.std.proofs.lemmas.{Bool.cases_lt, Nat.pow-add, Nat.pow_pos}
use Rattle.apfloat_model.specs.{arithmetic.Exact.up, arithmetic.Exact.down, declared.kinds.Round.Round}
use Rattle.apfloat_model.specs.{formats.Format.Format, whole_numbers.WholeNumbers.whole_pick}
use Rattle.apfloat_model.proofs.general.Choices.{eqb_self}
use Rattle.apfloat_decimals.specs.ExactDecimals.{IsNumberOf}
use Rattle.apfloat_decimals.specs.RoundedDecimals.{IsRoundedNumber, unit, units}
use Rattle.apfloat_decimals.specs.ShortestSearch.{IsBetween, IsLess}
use Rattle.apfloat_decimals.proofs.digits.OneRounded.{one_place}
use Rattle.apfloat_decimals.proofs.shortest_decimals.DecimalPlaces.{ten_pos, lowered}
use Rattle.apfloat_digits.specs.decimal.DigitCounts.{IsDigitCount}

-- ---- from the places

-- the places and the digits of a value
pub record HasPlaces (q d uf df up' dp s : ℕ) : Type 0 where
  pub some : 0 < d
  pub least : 1 * 10 ^ uf * 2 ^ s ≤ q * 10 ^ df
  pub less : q * 10 ^ df < 10 * 10 ^ uf * 2 ^ s
  pub number : q * 10 ^ dp ≡ d * 10 ^ up' * 2 ^ s

-- the last digit is not above the first one
not_above : (q d uf df up' dp s t : ℕ) → HasPlaces q d uf df up' dp s → up' + df ≡ (t + 1) + uf + dp → ⊥
not_above q d uf df up' dp s t x e =
    let l : d * 10 ^ up' * 2 ^ s * 10 ^ df ≡ d * 10 ^ (t + 1) * 10 ^ uf * 2 ^ s * 10 ^ dp =
    lowered d up' dp uf df (t + 1) s e in
    let a : q * 10 ^ df * 10 ^ dp < 10 * 10 ^ uf * 2 ^ s * 10 ^ dp = mul-lt-mul_of_pos_right x.less (ten_pos dp) in
    let n : q * 10 ^ dp * 10 ^ df ≡ d * 10 ^ up' * 2 ^ s * 10 ^ df = ap (λ (k : ℕ). k * 10 ^ df) x.number in
    let b : d * 10 ^ (t + 1) * (10 ^ uf * 2 ^ s * 10 ^ dp) < 10 * (10 ^ uf * 2 ^ s * 10 ^ dp) = omega arith in
    let c : d * 10 ^ (t + 1) < 10 = lt_of_mul-lt-mul_right (10 ^ uf * 2 ^ s * 10 ^ dp) b in
    let ten : 10 ^ (t + 1) ≡ 10 ^ t * 10 = pow-add 10 t 1 in
    let p : 1 ≤ 10 ^ t = ten_pos t in
    let m : 1 * 10 ≤ d * 10 ^ (t + 1) = least_product d (10 ^ (t + 1)) x.some (omega arith) in
    omega arith
  where
    least_product : (d k : ℕ) → 0 < d → 10 ≤ k → 1 * 10 ≤ d * k
    least_product d k p l =
        let a : 1 * k ≤ d * k = mul-le-mul_right k p in omega arith

pub digits_between : (q d uf df up' dp s t : ℕ) → HasPlaces q d uf df up' dp s → uf + dp ≡ t + up' + df
    → (10 ^ t ≤ d) × (d < 10 ^ (t + 1))
digits_between q d uf df up' dp s t x e =
    let l : 1 * 10 ^ uf * 2 ^ s * 10 ^ dp ≡ 1 * 10 ^ t * 10 ^ up' * 2 ^ s * 10 ^ df = lowered 1 uf df up' dp t s e in
    let n : q * 10 ^ dp * 10 ^ df ≡ d * 10 ^ up' * 2 ^ s * 10 ^ df = ap (λ (k : ℕ). k * 10 ^ df) x.number in
    let a : 1 * 10 ^ uf * 2 ^ s * 10 ^ dp ≤ q * 10 ^ df * 10 ^ dp = mul-le-mul_right (10 ^ dp) x.least in
    let b : q * 10 ^ df * 10 ^ dp < 10 * 10 ^ uf * 2 ^ s * 10 ^ dp = mul-lt-mul_of_pos_right x.less (ten_pos dp) in
    let some : 0 < 10 ^ up' * 2 ^ s * 10 ^ df = mul-pos (mul-pos (ten_pos up') (pow_pos s)) (ten_pos df) in
    let low : 10 ^ t * (10 ^ up' * 2 ^ s * 10 ^ df) ≤ d * (10 ^ up' * 2 ^ s * 10 ^ df) = omega arith in
    let high : d * (10 ^ up' * 2 ^ s * 10 ^ df) < 10 ^ t * 10 * (10 ^ up' * 2 ^ s * 10 ^ df) = omega arith in
    let ten : 10 ^ (t + 1) ≡ 10 ^ t * 10 = pow-add 10 t 1 in (
      le_of_mul-le-mul_right low some,
      rw ten (lt_of_mul-lt-mul_right (10 ^ up' * 2 ^ s * 10 ^ df) high),
    )

places_of : (f : Format) (q d : ℕ) (first place : ℤ) → IsBetween f q 1 10 first → IsNumberOf f q d place
    → (d % 10 ≡ 0 → ⊥) → HasPlaces q d (up first) (down first) (up place) (down place) f.scale
places_of f q d first place between number last = record {
  some = omega (arith, last);
  least = between.from;
  less = between.to;
  number = number;
}

pub last_below : (f : Format) (q d : ℕ) (first place : ℤ) → IsBetween f q 1 10 first → IsNumberOf f q d place
    → (d % 10 ≡ 0 → ⊥) → up place + down first ≤ up first + down place
last_below f q d first place between number last =
    ⊎_elim
    (λ (l : up first + down place < up place + down first).
    absurd (not_above q d (up first) (down first) (up place) (down place) f.scale
    (up place + down first - (up first + down place) - 1) (places_of f q d first place between number last)
    (omega arith))) (λ (l : up place + down first ≤ up first + down place). l)
    (cases_lt (up first + down place) (up place + down first))

pub counted : (f : Format) (q d count : ℕ) (first place : ℤ) → IsBetween f q 1 10 first → IsNumberOf f q d place
    → (d % 10 ≡ 0 → ⊥) → count + up place + down first ≡ 1 + up first + down place → IsDigitCount f q count
counted f q d count first place between number last e =
    let below = last_below f q d first place between number last in
    let some : count ≡ (count - 1) + 1 = omega arith in
    let within = digits_between q d (up first) (down first) (up place) (down place) f.scale (count - 1)
    (places_of f q d first place between number last) (omega arith) in
    record {
      digits = d;
      exponent = place;
      number = number;
      last = last;
      full = within.0;
      fits = subst (λ (n : ℕ). d < 10 ^ n) (sym some) within.1;
    }

-- ---- rounded to that count

whole_exact : (mode : Round) (negative : Bool) (amount parts d : ℕ) → 0 < parts → amount ≡ d * parts
    → eqb (whole_pick mode negative amount parts * parts) amount ≡ true
whole_exact mode negative amount parts d some e =
    let rest : amount % parts ≡ 0 = ap (λ (x : ℕ). x % parts) e ∙ mul-mod_left d parts in
    let whole : amount / parts ≡ d = ap (λ (x : ℕ). x / parts) e ∙ mul-div_cancel d some in
    let zero_is : eqb (amount % parts) 0 ≡ true = ap (λ (x : ℕ). eqb x 0) rest in
    let same : amount / parts * parts ≡ amount = ap (λ (x : ℕ). x * parts) whole ∙ sym e in
    rw (zero_is, same) (eqb_self amount)

pub exact_at : (f : Format) (mode : Round) (negative : Bool) (q count digits : ℕ) (exponent : ℤ) (exact : Bool)
    → IsDigitCount f q count → IsRoundedNumber f mode negative q count digits exponent exact → exact ≡ true
exact_at f mode negative q count digits exponent exact x y =
    let full = x.full in
    let fits = x.fits in
    let number : q * 10 ^ down x.exponent ≡ x.digits * 10 ^ up x.exponent * 2 ^ f.scale = x.number in
    let some : 0 < count = count_some count x.digits full fits in
    let low : 10 ^ (count - 1) * (10 ^ up x.exponent * 2 ^ f.scale) ≤ x.digits * (10 ^ up x.exponent * 2 ^ f.scale) =
    mul-le-mul_right (10 ^ up x.exponent * 2 ^ f.scale) full in
    let unit_some : 0 < 10 ^ up x.exponent * 2 ^ f.scale = mul-pos (ten_pos (up x.exponent)) (pow_pos f.scale) in
    let high : x.digits * (10 ^ up x.exponent * 2 ^ f.scale) < 10 ^ count * (10 ^ up x.exponent * 2 ^ f.scale) =
    mul-lt-mul_of_pos_right fits unit_some in
    let less : IsLess f q (10 ^ count) x.exponent = omega arith in
    let same : y.place ≡ x.exponent = one_place f q count x.exponent y.place some (omega arith) less y.least y.less in
    let told = subst (λ (z : ℤ).
    exact ≡ eqb (whole_pick mode negative (units q z) (unit f z) * unit f z) (units q z)) same y.exact_is in
    told ∙ whole_exact mode negative (units q x.exponent) (unit f x.exponent) x.digits unit_some (omega arith)
  where
    count_some : (count d : ℕ) → 10 ^ (count - 1) ≤ d → d < 10 ^ count → 0 < count
    count_some zero d full fits = absurd (omega (arith, full, fits))
    count_some (suc n) d full fits = omega arith
