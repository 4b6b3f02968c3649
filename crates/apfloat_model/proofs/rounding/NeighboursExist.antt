-- Each magnitude has its two neighbours.
use Rattle.std.proofs.Common.{◌≡◌, ℕ, ◌+◌, ◌-◌, ◌*◌, ◌/◌, ◌^◌, ◌<◌, ◌≤◌, ◌⊎◌, ap, ◌∙◌, inl, inr, ⊎_elim, arith}
use Rattle.std.proofs.Math.Nat.{mul-le-mul_right, mul-pos, div-mul-le_self, lt-div-mul-add, div-lt_iff_lt-mul}
use Rattle.std.proofs.Math.Nat.{le-div_iff_mul-le, pow-le-pow_right}
use Rattle.std.proofs.lemmas.{Nat.pow-add, Nat.pow_pos, Nat.leading_length, Bool.cases_lt}
use Rattle.apfloat_model.specs.rounding.{Grid.IsBelow, Grid.IsAbove, Enclosure.IsEnclosed}
use Rattle.apfloat_model.proofs.general.Powers.{two_pos, below_power}
use Rattle.apfloat_model.proofs.rounding.Neighbours.{below_is, above_is_same, above_is_next}

-- an amount is enclosed by its quotient by parts * 2 ^ c
pub enclosed_by_quotient : (precision half c amount parts : ℕ) → 0 < parts → 2 ^ precision ≡ 2 * half
    → amount < 2 ^ precision * (parts * 2 ^ c) → (c ≡ 0) ⊎ (half * (parts * 2 ^ c) ≤ amount)
    → IsEnclosed precision half (amount / (parts * 2 ^ c)) c amount parts
enclosed_by_quotient precision half c amount parts p e h f =
    let u : 0 < parts * 2 ^ c = mul-pos p (pow_pos c) in
    let low : amount / (parts * 2 ^ c) * (parts * 2 ^ c) ≤ amount = div-mul-le_self amount (parts * 2 ^ c) in
    let high : amount < amount / (parts * 2 ^ c) * (parts * 2 ^ c) + parts * 2 ^ c = lt-div-mul-add u in
    record {
      double = e;
      fits = (div-lt_iff_lt-mul u).1 h;
      full = ⊎_elim (λ q. inl q) (λ q. inr ((le-div_iff_mul-le u).1 q)) f;
      from = omega arith;
      to = omega arith;
    }

-- each number has a number of binary digits
has_length : (n : ℕ) → (k : ℕ) × (n < 2 ^ k) × (2 ^ k ≤ 2 * n + 1)
has_length n = let r = leading_length n n (below_power n) in (r.0, r.2, r.3)

-- if the number has more digits than the precision, the kept significand has all its digits
full_at : (precision half q k amount parts : ℕ) → 2 ^ precision ≡ 2 * half → precision < k → 2 ^ k ≤ 2 * q + 1
    → q * parts ≤ amount → half * (parts * 2 ^ (k - precision)) ≤ amount
full_at precision half q k amount parts e z l low =
    let g : k ≡ precision + (k - precision) = omega arith in
    let w : 2 ^ k ≡ 2 ^ precision * 2 ^ (k - precision) = ap (λ (x : ℕ). 2 ^ x) g ∙
    pow-add 2 precision (k - precision) in
    let w' : 2 ^ precision * 2 ^ (k - precision) ≡ 2 * half * 2 ^ (k - precision) =
    ap (λ (x : ℕ). x * 2 ^ (k - precision)) e in
    let a : half * 2 ^ (k - precision) ≤ q = omega arith in
    let b : half * 2 ^ (k - precision) * parts ≤ q * parts = mul-le-mul_right parts a in
    omega arith

-- an amount whose quotient has k digits is below the power of two past its kept digits
bounded : (precision half q k amount parts : ℕ) → 0 < parts → 2 ^ precision ≡ 2 * half → q < 2 ^ k → 2 ^ k ≤ 2 * q + 1
    → q * parts ≤ amount → amount < q * parts + parts → (amount < 2 ^ precision * (parts * 2 ^ (k - precision)))
    × ((k - precision ≡ 0) ⊎ (half * (parts * 2 ^ (k - precision)) ≤ amount))
bounded precision half q k amount parts p e h l low high =
    let g : k ≤ precision + (k - precision) = omega arith in
    let w : 2 ^ (precision + (k - precision)) ≡ 2 ^ precision * 2 ^ (k - precision) =
    pow-add 2 precision (k - precision) in
    let a : 2 ^ k ≤ 2 ^ (precision + (k - precision)) = pow-le-pow_right two_pos g in
    let a' : q + 1 ≤ 2 ^ precision * 2 ^ (k - precision) = omega arith in
    let b : (q + 1) * parts ≤ 2 ^ precision * 2 ^ (k - precision) * parts = mul-le-mul_right parts a' in (
      omega arith,
      ⊎_elim (λ (z : precision < k). inr (full_at precision half q k amount parts e z l low))
          (λ (z : k ≤ precision). inl (omega arith)) (cases_lt precision k),
    )

-- each magnitude is enclosed by a significand at some place
pub enclosed_at : (precision half amount parts : ℕ) → 0 < parts → 2 ^ precision ≡ 2 * half
    → (c : ℕ) × IsEnclosed precision half (amount / (parts * 2 ^ c)) c amount parts
enclosed_at precision half amount parts p e =
    let r = has_length (amount / parts) in
    let high : amount < amount / parts * parts + parts = lt-div-mul-add p in
    let b = bounded precision half (amount / parts) r.0 amount parts p e r.1 r.2 (div-mul-le_self amount parts) high in
    (r.0 - precision, enclosed_by_quotient precision half (r.0 - precision) amount parts p e b.0 b.1)

-- there is a greatest grid number that is not above the magnitude
pub below_exists : (precision half amount parts : ℕ) → 0 < parts → 2 ^ precision ≡ 2 * half
    → (b : ℕ) × IsBelow precision b amount parts
below_exists precision half amount parts p e =
    let r = enclosed_at precision half amount parts p e in
    (amount / (parts * 2 ^ r.0) * 2 ^ r.0, below_is precision half (amount / (parts * 2 ^ r.0)) r.0 amount parts r.1)

-- the neighbour above an enclosed amount
above_of : (precision half m c amount parts : ℕ) → 0 < parts → IsEnclosed precision half m c amount parts
    → (a : ℕ) × IsAbove precision a amount parts
above_of precision half m c amount parts p i =
    ⊎_elim
    (λ (q : m * 2 ^ c * parts < amount). ((m + 1) * 2 ^ c, above_is_next precision half m c amount parts i q))
    (λ (q : amount ≤ m * 2 ^ c * parts). let f : m * 2 ^ c * parts ≤ amount = i.from in
    (m * 2 ^ c, above_is_same precision half m c amount parts p i (omega arith)))
    (cases_lt (m * 2 ^ c * parts) amount)

-- there is a least grid number that is not below the magnitude
pub above_exists : (precision half amount parts : ℕ) → 0 < parts → 2 ^ precision ≡ 2 * half
    → (a : ℕ) × IsAbove precision a amount parts
above_exists precision half amount parts p e =
    let r = enclosed_at precision half amount parts p e in
    above_of precision half (amount / (parts * 2 ^ r.0)) r.0 amount parts p r.1
