-- The error of a rounded fraction: at most half a unit in the last place, or half a quantum.
use Rattle.std.proofs.Common.{◌≡◌, ℕ, ◌+◌, ◌-◌, ◌*◌, ◌/◌, ◌^◌, ◌<◌, ◌≤◌, ◌⊎◌, inl, inr, sym, ap, subst, arith}
use Rattle.std.proofs.Math.Nat.{mul-le-mul_right, mul-le-mul_left}
use Rattle.std.specs.Prelude.{ℤ, pos, ◌-ℤ◌, ◌*ℤ◌, false}
use Rattle.apfloat_model.specs.rounding.{Grid.IsOnGrid, Enclosure.IsEnclosed}
use Rattle.apfloat_model.specs.arithmetic.Exact.{magnitude, signed, sign_of}
use Rattle.apfloat_model.proofs.{rounding.Neighbours.next_on_grid, general.Powers.twice_half}
use Rattle.apfloat_model.proofs.{arithmetic.Signs.magnitude_signed, whole_numbers.SignedProducts.magnitude-times}
use Rattle.apfloat_model.proofs.rounding.{NeighboursExist.enclosed_at, Neighbours.multiple_on_grid}
use Rattle.apfloat_pair_theory.proofs.numbers.Signed.{grown, on_grid_as}
use Rattle.apfloat_pair_theory.proofs.numbers.Roundings.{apart, signed_exact, signed_away, IsNearestFraction}

-- z quanta differ from exact / parts quanta by at most 2 ^ -precision of these plus half a quantum
abbrev pub IsCloseFraction : ℕ → ℕ → ℤ → ℤ → Type 0
IsCloseFraction precision parts exact z =
    2 * (2 ^ precision * magnitude ((z *ℤ pos parts) -ℤ exact)) ≤ 2 * magnitude exact + 2 ^ precision * parts

-- a distance of at most half a unit is small relative to a normalized significand
fraction_at : (half m u w d n : ℕ) → half ≤ m → m * u * w ≤ n → 2 * d ≤ u * w → 2 * half * d ≤ n
fraction_at half m u w d n h l k =
    let a : half * (2 * d) ≤ half * (u * w) = mul-le-mul_left half k in
    let b : half * (u * w) ≤ m * (u * w) = mul-le-mul_right (u * w) h in
    omega arith

-- a distance that is at most that of either neighbour is small relative to a normalized significand
fraction_by : (precision half m c amount parts d : ℕ) → IsEnclosed precision half m c amount parts
    → (c ≡ 0) ⊎ (half ≤ m) → d ≤ apart (m * 2 ^ c * parts) amount → d ≤ apart ((m + 1) * 2 ^ c * parts) amount
    → 2 * (2 ^ precision * d) ≤ 2 * amount + 2 ^ precision * parts
fraction_by precision half m c amount parts d i (inl z) x y =
    let e : 2 ^ c ≡ 1 = ap (λ (k : ℕ). 2 ^ k) z in
    let a : m * 2 ^ c * parts ≡ m * 1 * parts = ap (λ (k : ℕ). m * k * parts) e in
    let b : (m + 1) * 2 ^ c * parts ≡ (m + 1) * 1 * parts = ap (λ (k : ℕ). (m + 1) * k * parts) e in
    let f = i.from in
    let t = i.to in
    let s : 2 * d ≤ parts = omega (arith, f, t) in
    let v : 2 ^ precision * (2 * d) ≤ 2 ^ precision * parts = mul-le-mul_left (2 ^ precision) s in
    omega arith
fraction_by precision half m c amount parts d i (inr l) x y =
    let f = i.from in
    let t = i.to in
    let s : 2 * d ≤ 2 ^ c * parts = omega (arith, f, t) in
    let v : 2 * half * d ≤ amount = fraction_at half m (2 ^ c) parts d amount l f s in
    let e : 2 ^ precision * d ≡ 2 * half * d = ap (λ (k : ℕ). k * d) i.double in
    omega arith

-- the distance from the nearest grid number is at most that from any grid number
nearer : (precision parts : ℕ) (exact z : ℤ) (g : ℕ) → IsNearestFraction precision parts exact z → IsOnGrid precision g
    → magnitude ((z *ℤ pos parts) -ℤ exact) ≤ apart (g * parts) (magnitude exact)
nearer precision parts exact z g n o =
    let s = sign_of false exact in
    let e : magnitude ((signed s g *ℤ pos parts) -ℤ exact) ≡ apart (g * parts) (magnitude exact) =
    subst (λ (i : ℤ). magnitude ((signed s g *ℤ pos parts) -ℤ i) ≡ apart (g * parts) (magnitude exact))
    (signed_exact false exact) (signed_away s g (magnitude exact) parts) in
    subst (λ (i : ℕ). magnitude ((z *ℤ pos parts) -ℤ exact) ≤ i) e
    (n.nearest (signed s g) (on_grid_as (sym (magnitude_signed s g)) o))

-- a nearest number is that close to the fraction
pub fraction_error : (precision parts : ℕ) (exact z : ℤ) → 0 < precision → 0 < parts
    → IsNearestFraction precision parts exact z → IsCloseFraction precision parts exact z
fraction_error precision parts exact z h u x =
    let e : 2 ^ precision ≡ 2 * 2 ^ (precision - 1) = sym (twice_half precision h) in
    let r = enclosed_at precision (2 ^ (precision - 1)) (magnitude exact) parts u e in
    let m = magnitude exact / (parts * 2 ^ r.0) in
    fraction_by precision (2 ^ (precision - 1)) (magnitude exact / (parts * 2 ^ r.0)) r.0 (magnitude exact)
    parts _ r.1 r.1.full (nearer precision parts exact z (magnitude exact / (parts * 2 ^ r.0) * 2 ^ r.0) x
    (multiple_on_grid precision (magnitude exact / (parts * 2 ^ r.0)) r.0 r.1.fits))
    (nearer precision parts exact z ((magnitude exact / (parts * 2 ^ r.0) + 1) * 2 ^ r.0) x
    (next_on_grid precision (2 ^ (precision - 1)) (magnitude exact / (parts * 2 ^ r.0)) r.0 e r.1.fits))

-- a rounded fraction is at most the fraction plus its error
pub fraction_size : (parts : ℕ) (exact z : ℤ)
    → magnitude z * parts ≤ magnitude exact + magnitude ((z *ℤ pos parts) -ℤ exact)
fraction_size parts exact z =
    subst (λ (i : ℕ). i ≤ magnitude exact + magnitude ((z *ℤ pos parts) -ℤ exact)) (magnitude-times z parts)
    (grown exact (z *ℤ pos parts))
